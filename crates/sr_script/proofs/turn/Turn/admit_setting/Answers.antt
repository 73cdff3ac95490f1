use Rattle.std.proofs.Common.{refl}
use Rattle.sr_script.proofs.Turning.{codec_admits, version_admits, reconnect_admits, buffer_admits}
use Rattle.sr_script.proofs.turn.Turn.admit_setting.Goals as goal

pub returns-in-Codec : goal.returns-in-Codec
returns-in-Codec c = λ p knows. rw c.in-Codec.is (codec_admits c.args.self.now _ p c.in-Codec.field-0 c.replace.result knows c.if-not-self.false
    c.replace.ensures.value c.replace.ensures.after refl refl refl refl refl refl refl refl)

pub returns-in-Version : goal.returns-in-Version
returns-in-Version c = λ p knows. rw c.in-Version.is (version_admits c.args.self.now _ p c.in-Version.field-0 c.replace-in-Version.result knows c.if-not-self.false
    c.replace-in-Version.ensures.value c.replace-in-Version.ensures.after refl refl refl refl refl refl refl refl)

pub returns-in-Reconnect : goal.returns-in-Reconnect
returns-in-Reconnect c = λ p knows. rw c.in-Reconnect.is (reconnect_admits c.args.self.now _ p c.in-Reconnect.field-0 c.replace-in-Reconnect.result knows c.if-not-self.false
    c.replace-in-Reconnect.ensures.value c.replace-in-Reconnect.ensures.after refl refl refl refl refl refl refl refl)

pub returns-in-Buffer : goal.returns-in-Buffer
returns-in-Buffer c = λ p knows. rw c.in-Buffer.is (buffer_admits c.args.self.now _ p c.in-Buffer.field-0 c.replace-in-Buffer.result knows c.if-not-self.false
    c.replace-in-Buffer.ensures.value c.replace-in-Buffer.ensures.after refl refl refl refl refl refl refl refl)

use Rattle.std.proofs.Common.{refl}
use Rattle.sr_client.proofs.Taken.{refused_as, took, took_none}
use Rattle.sr_client.proofs.peer.ClientPeer.take_one.Goals as goal

pub returns-in-Ok-None : goal.returns-in-Ok-None
returns-in-Ok-None c = λ t h on.
    let taken = rw c.in-Ok-None.field-0-is at c.in-Ok-None.ensures.ok in
    took_none t c.args.self.now h on _ refl c.args.now c.args.out.now.items (taken t h on.stands)

pub returns-in-Ok-Some : goal.returns-in-Ok-Some
returns-in-Ok-Some c = λ t h on.
    let taken = rw c.in-Ok-Some.field-0-is at c.in-Ok-Some.ensures.ok in
    took t c.args.self.now h on _ refl c.args.now c.args.out.now.items c.push_told.new.out.items c.in-Ok-Some.did (taken t h on.stands)
    c.in_ok-push_told-in-Ok-Some.ensures

pub returns-in-Err-Next : goal.returns-in-Err-Next
returns-in-Err-Next c = λ t h on.
    refused_as t c.args.self.now h on _ refl c.args.now c.args.out.now.items _ _ c.in-Err-Next.field-0-is (λ e. absurd (cc))
    (c.in-Err-Next.ensures.refused t h on.stands)

pub returns-in-Err-InUse : goal.returns-in-Err-InUse
returns-in-Err-InUse c = λ t h on.
    refused_as t c.args.self.now h on _ refl c.args.now c.args.out.now.items _ _ c.in-Err-InUse.field-0-is (λ e. absurd (cc))
    (c.in-Err-InUse.ensures.refused t h on.stands)

pub returns-in-Err-TooMany : goal.returns-in-Err-TooMany
returns-in-Err-TooMany c = λ t h on.
    refused_as t c.args.self.now h on _ refl c.args.now c.args.out.now.items _ _ c.in-Err-TooMany.field-0-is (λ e. absurd (cc))
    (c.in-Err-TooMany.ensures.refused t h on.stands)

pub returns : goal.returns
returns c = λ t h on.
    refused_as t c.args.self.now h on _ refl c.args.now c.args.out.now.items _ _ c.in-Err-Flood.field-0-is (λ e. absurd (cc))
    (c.in-Err-Flood.ensures.refused t h on.stands)

use Rattle.std.proofs.Common.{sym, arith}
use Rattle.std.proofs.lemmas.Bool.{both_ways}
use Rattle.hh_http.proofs.NumberFacts.{padded_iff, padded_not}
use Rattle.hh_http.proofs.fields.is_padded.Goals as goal

pub returns-then-same_bytes : goal.returns-then-same_bytes
returns-then-same_bytes c =
    padded_iff c.args.short.now c.args.long.now _ _ c.all_zeros.result (sym c.split_at.ensures.by_index.0) (omega (arith, c.split_at.ensures.back_len, c.requires.order)) c.requires.short c.requires.long
    (c.same_bytes.ensures.0 c.if-same_bytes.true) c.all_zeros.ensures

pub returns-else-same_bytes : goal.returns-else-same_bytes
returns-else-same_bytes c = (
  λ t. absurd (both_ways _ c.if-same_bytes.false t),
  λ e. c.same_bytes.ensures.1
      (padded_not c.args.short.now c.args.long.now _ _ (sym c.split_at.ensures.by_index.0) (omega (arith, c.split_at.ensures.back_len, c.requires.order)) c.requires.short c.requires.long e),
)

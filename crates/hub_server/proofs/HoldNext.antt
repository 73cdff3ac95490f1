-- A further poll of a connection that polls.
use Rattle.std.proofs.Common.{◌≡◌, ℕ, List, [], ◌∷◌, None, sym, ap, subst, ◌∙◌}
use Rattle.hd_server.specs.Lives.{Polled}
use Rattle.hd_server.specs.declared.vocabulary.Outcome.TheVariants.{NextPoll}
use Rattle.hd_server.specs.Doings.{ServerEvent, Notes, moment}
use Rattle.hd_server.specs.Plans.{PendingRequest, Setup, ending_held, onto, request_plan}
use Rattle.hd_server.specs.Serves.{FeedsOne}
use Rattle.hub_server.specs.Steps.{Follows}

pub follows_next : (s : Setup) (o : PendingRequest) (k at : ℕ) (h fed : List ServerEvent) → o.now ≡ moment h → o.lane ≡ at
    → moment (onto (ending_held k (moment h) h) h) ≡ moment h → moment fed ≡ moment (onto (ending_held k (moment h) h) h)
    → FeedsOne (moment (onto (ending_held k (moment h) h) h)) k [] (onto (ending_held k (moment h) h) h) fed
    → Follows (request_plan s o None k h NextPoll) h (Notes (Polled k at (moment fed)) ∷ fed)
follows_next s o k at h fed when where_at kept later feeds = record {
  fed = fed;
  feeds = subst (λ n. FeedsOne (moment h) k [] (onto (ending_held k n h) h) fed) (sym when)
      (subst (λ n. FeedsOne n k [] (onto (ending_held k (moment h) h) h) fed) kept feeds);
  is = ap (λ n. Notes (Polled k at n) ∷ fed) (later ∙ kept ∙ sym when) ∙ ap (λ l. Notes (Polled k l o.now) ∷ fed) (sym where_at);
}

-- What happenings asked of the keeper, and how many messages were spelled for them: first for some, then for others.
use Rattle.std.proofs.Common.{◌≡◌, ℕ, ◌+◌, List, [], ◌++◌, Option, Some, None, option_map, refl, sym, ap, ◌∙◌, arith}
use Rattle.std.proofs.lemmas.List.{append-nil, append_assoc}
use Rattle.hd_rooms.specs.declared.vocabulary.Asked.{Asked}
use Rattle.hd_rooms.specs.Kept.{Content, KeeperDid}
use Rattle.hd_rooms.specs.KeptLaws.{AnswersJoin}
use Rattle.hd_server.specs.Machine.{MachineEvent}
use Rattle.hub_machine.specs.KeeperState.{KeeperState, HasAnswered, HasAnsweredDuring, asks_in, spellings}

-- what was told before, with more and then with others
told_more : (before : Option (List Asked)) (some others : List Asked)
    → option_map (λ known. known ++ others) (option_map (λ known. known ++ some) before) ≡ option_map (λ known. known ++ (some ++ others)) before
told_more None some others = refl
told_more (Some known) some others = ap Some (append_assoc known some others)

-- with nothing more
told_same : (before : Option (List Asked)) → before ≡ option_map (λ known. known ++ []) before
told_same None = refl
told_same (Some known) = ap Some (sym (append-nil known))

-- nothing was asked
keeper_same : (holds : Option Content) → KeeperDid holds [] holds
keeper_same None = tt
keeper_same (Some content) = refl

-- the outside that goes on with some, and then with others, goes on with all of them
goes_on : (a b c : KeeperState) (some others : List Asked) (m n : ℕ) → AnswersJoin → HasAnswered a b some m → HasAnswered b c others n → HasAnswered a c (some ++ others) (n + m)
goes_on a b c some others m n law first then_goes = record {
  told = then_goes.told ∙ ap (option_map (λ known. known ++ others)) first.told ∙ told_more a.answers some others;
  kept = law.kept a.holds b.holds c.holds some others first.kept then_goes.kept;
  counted = law.faults a.faults b.faults c.faults some others first.counted then_goes.counted;
  spelled = let one = first.spelled in let two = then_goes.spelled in omega (arith, one, two);
}

pub goes_join : (a b c : KeeperState) (w r s : List MachineEvent) → AnswersJoin → HasAnsweredDuring a b w r → HasAnsweredDuring b c r s → HasAnsweredDuring a c w s
goes_join a b c w r s law first then_goes = record {
  asks = first.asks ++ then_goes.asks;
  are = then_goes.are ∙ ap (λ asks. asks ++ then_goes.asks) first.are ∙ append_assoc (asks_in w) first.asks then_goes.asks;
  most = then_goes.most + first.most;
  count = let one = first.count in let two = then_goes.count in omega (arith, one, two);
  goes = goes_on a b c first.asks then_goes.asks first.most then_goes.most law first.goes then_goes.goes;
}

-- where nothing was asked and nothing spelled, it is as it was
pub goes_same : (o : KeeperState) (w r : List MachineEvent) → asks_in r ≡ asks_in w → spellings r ≡ spellings w → HasAnsweredDuring o o w r
goes_same o w r e f = record {
  asks = [];
  are = e ∙ sym (append-nil (asks_in w));
  most = 0;
  count = let same = f in omega (arith, same);
  goes = record { told = told_same o.answers; kept = keeper_same o.holds; counted = refl; spelled = omega arith };
}

-- The invariant holds in every world.
use Rattle.std.proofs.Common.{⊎_elim, ◌≡◌, ℕ, Bool, true, false, List, [], ◌∷◌, Option, Some, None, refl, sym, ◌∙◌, subst, arith}
use Rattle.std.specs.Prelude.{slice_get, ◌⊎◌, ◌==◌}
use Rattle.std.proofs.lemmas.Bool.{or_cases, eqb-true}
use Rattle.hd_delivery.specs.declared.vocabulary.Side.{Side}
use Rattle.hd_delivery.specs.declared.vocabulary.Side.TheVariants.{Client, Server}
use Rattle.hd_delivery.specs.Frames.{LinkFrame}
use Rattle.hd_delivery.specs.Histories.{EndEvent, Attached, Detached, Fed, Took, Failed, Sent, Lent, Ticked, Silenced, Closed, first_of, present_link, was_on, first_link, fed_frames, taken_count, is_shaken, is_resumable}
use Rattle.hd_delivery.specs.Processes.{next_number, reads}
use Rattle.hd_delivery.specs.Worlds.{Limits, Sizes, MayAttach, Allowed, Terms, config, Event, ByClient, ByServer, client_of, server_of, IsWorld}
use Rattle.hd_delivery.proofs.Local.{or_right, none_was, first_was}
use Rattle.hd_delivery.proofs.Pair.{Own, Way, Pair, detached, was_sent, was_fed, was_read, was_attached, was_lent}
use Rattle.hd_delivery.proofs.WhatIsRead.{read_step, read_any}
use Rattle.hd_delivery.proofs.WhatIsSaid.{says_due}
use Rattle.hd_delivery.proofs.Run.{Run, writes_detached, writes_sent, writes_fed, writes_attached, writes_read, writes_lent, reads_detached, reads_fed, reads_read, reads_attached, reads_lent, third}

-- what holds of two ends in every world
abbrev pub Inv : Side → Terms → List EndEvent → List EndEvent → Type 0
Inv side terms x y = record {
  pair : Pair side terms x y;
  runs : (terms.version == 3) ≡ true → Run x y;
  runs_back : (terms.version == 3) ≡ true → Run y x;
}

module _ (limits : Limits) (sizes : Sizes) (side : Side) (terms : Terms) (x y : List EndEvent) (i : Inv side terms x y) where
  pub links : (l : ℕ) → was_on l x ≡ false → (first_link x ≡ None) ⊎ (is_resumable (config side terms) x ≡ true)
      → ((k j : ℕ) → first_of (first_link x) (Some l) ≡ Some k → first_link y ≡ Some j → k ≡ j)
      → Inv side terms (Attached l 0 ∷ x) y
  links l fresh may agree = record {
    pair = was_attached side terms x y i.pair l fresh may agree;
    runs = λ b. writes_attached side terms x y i.pair b l fresh agree (i.runs b);
    runs_back = λ b. reads_attached side terms x y i.pair b l fresh (i.runs_back b);
  }

  reads_one : (s : EndEvent) → (l : ℕ) (t : LinkFrame) → present_link x ≡ Some l → slice_get (fed_frames l x) (taken_count l x) ≡ Some t → reads (config side terms) x (next_number (config side terms) x l) t ≡ s → Inv side terms (s ∷ x) y
  reads_one s l t at next is =
      let f = read_any side terms x y i.pair l t at next (λ b s m e. third side terms x y i.pair b (i.runs_back b) l t at next b s m e) in
      subst (λ s. Inv side terms (s ∷ x) y) (sym f.1 ∙ is) (record {
        pair = was_read side terms x y i.pair f.0 l t at next f.2;
        runs = λ b. writes_read side terms x y i.pair b f.0 l t at next f.2 (i.runs b);
        runs_back = λ b. reads_read side terms x y i.pair b f.0 l t at next f.2 (i.runs_back b);
      })

  -- every step but a new link keeps all
  pub steps : (s : EndEvent) → ((l now : ℕ) → s ≡ Attached l now → ⊥) → Allowed limits sizes (config side terms) x y s → Inv side terms (s ∷ x) y
  steps (Attached l now) new a = absurd (new l now refl)
  steps (Detached now) new a = record {
    pair = detached side terms x y i.pair;
    runs = λ b. writes_detached side terms x y i.pair b (i.runs b);
    runs_back = λ b. reads_detached side terms x y i.pair b (i.runs_back b);
  }
  steps (Fed piece) new a = record {
    pair = was_fed side terms x y i.pair piece a.link a.at a.front;
    runs = λ b. writes_fed side terms x y i.pair b piece (i.runs b);
    runs_back = λ b. reads_fed side terms x y i.pair b piece (i.runs_back b);
  }
  steps (Took got) new a =
      let p = read_step (config side terms) x (Took got) a in
      reads_one (Took got) p.0 p.1 p.2 p.3 p.4
  steps (Failed fault) new a =
      let p = read_step (config side terms) x (Failed fault) a in
      reads_one (Failed fault) p.0 p.1 p.2 p.3 p.4
  steps (Sent m) new a = record {
    pair = was_sent side terms x y i.pair m a.shakes a.few;
    runs = λ b. writes_sent side terms x y i.pair b m (i.runs b);
    runs_back = i.runs_back;
  }
  steps (Lent t) new a =
      let p = says_due side terms x y i.pair t a in
      record {
        pair = was_lent side terms x y i.pair t p.0 p.1 p.2;
        runs = λ b. writes_lent side terms x y i.pair b t p.0 p.1 p.2 (i.runs b);
        runs_back = λ b. reads_lent side terms x y i.pair b t p.0 p.1 p.2 (i.runs_back b);
      }
  steps (Ticked now) new a = i
  -- a silence is a loss
  steps (Silenced now) new a = record {
    pair = detached side terms x y i.pair;
    runs = λ b. writes_detached side terms x y i.pair b (i.runs b);
    runs_back = λ b. reads_detached side terms x y i.pair b (i.runs_back b);
  }
  steps (Closed reason allow) new a = i

-- what holds of the two ends and of their links
abbrev pub Together : Terms → List EndEvent → List EndEvent → Type 0
Together terms c s = record {
  ends : Inv Client terms c s;
  among : (l : ℕ) → was_on l s ≡ true → was_on l c ≡ true;
}

pub to_server : (terms : Terms) (x y : List EndEvent) → Inv Client terms x y → Inv Server terms y x
to_server terms x y i = record {
  pair = record { own = i.pair.its; its = i.pair.own; to = i.pair.from; from = i.pair.to; agree = λ k l e f. sym (i.pair.agree l k f e); met = i.pair.met_back; met_back = i.pair.met };
  runs = i.runs_back;
  runs_back = i.runs;
}

to_client : (terms : Terms) (x y : List EndEvent) → Inv Server terms y x → Inv Client terms x y
to_client terms x y i = record {
  pair = record { own = i.pair.its; its = i.pair.own; to = i.pair.from; from = i.pair.to; agree = λ k l e f. sym (i.pair.agree l k f e); met = i.pair.met_back; met_back = i.pair.met };
  runs = i.runs_back;
  runs_back = i.runs;
}

none_there : (l : ℕ) → ◌≡◌ {A = Option ℕ} None (Some l) → ⊥
none_there l e = absurd (cc)

pub start : (terms : Terms) → Together terms [] []
start terms = record {
  ends = record { pair = record { own = own Client; its = own Server; to = way; from = way; agree = λ k l e f. absurd (none_there k e); met = λ e. absurd (cc); met_back = λ e. absurd (cc) }; runs = λ b. run; runs_back = λ b. run };
  among = λ l e. e;
}
  where
    own : (side : Side) → Own side terms []
    own side = record {
      one_link = λ e l f. absurd (cc);
      later = λ l f. absurd (cc);
      none_taken = λ e l. refl;
      some_taken = λ e. absurd (cc);
      unsent = λ e. refl;
      unheard = λ e. (refl, refl);
      keeping = λ e. absurd (cc);
      version = λ e. absurd (cc);
      speaks = λ e. absurd (cc);
      plain = λ e. refl;
      faultless = tt;
      unskipped = λ e. tt;
      lent_sent = omega arith;
      few = omega arith;
      within = λ l. omega arith;
      placed = λ e l f. refl;
      untold = λ l e f. refl;
      unwritten = λ b l e f g. refl;
      resumes = λ b l n e. absurd (none_there l e);
      resumed_read = λ l e. absurd (none_there l e);
    }

    way : Way Client terms [] []
    way = record {
      good = λ l. tt;
      in_order = ([], refl);
      most = omega arith;
      acks = omega arith;
      feeds = λ l. ([], refl);
      numbers = λ l n e f. absurd (none_there l e);
      exact = λ b l n e f. absurd (none_there l e);
      heard = λ l. omega arith;
    }

    run : Run [] []
    run = record {
      unopened = λ l e. refl;
      line = λ l ρ j m e. absurd (none_there l e);
      place = λ l ρ e. absurd (none_there l e);
      next = λ l ρ e. absurd (none_there l e);
      early = λ l ρ e. absurd (none_there l e);
      elsewhere = λ l ρ k e. absurd (none_there l e);
    }

module _ (limits : Limits) (sizes : Sizes) (terms : Terms) (c s : List EndEvent) (t : Together terms c s) where
  -- a new link of the client's
  client_links : (l now : ℕ) → MayAttach (config Client terms) c s l now → Together terms (Attached l 0 ∷ c) s
  client_links l now a = record {
    ends = links limits sizes Client terms c s t.ends l a.unused a.granted (λ k j e f. agree (first_link c) refl k j e f);
    among = λ k e. or_right (k == l) (was_on k c) (t.among k e);
  }
    where
      agree : (o : Option ℕ) → first_link c ≡ o → (k j : ℕ) → first_of o (Some l) ≡ Some k → first_link s ≡ Some j → k ≡ j
      agree None e k j f g = let w = t.among j (first_was s j g) in let n = none_was j c e in let z : false ≡ true = sym n ∙ w in absurd (cc)
      agree (Some i) e k j f g = let f' : i ≡ k = cc in sym f' ∙ t.ends.pair.agree i j e g

  pub client_steps : (step : EndEvent) → Allowed limits sizes (config Client terms) c s step → Together terms (step ∷ c) s
  client_steps (Attached l now) a = client_links l now a
  client_steps step a = record { ends = steps limits sizes Client terms c s t.ends step (λ l now e. absurd (cc)) a; among = t.among }

  -- the server takes a link of the client's
  server_links : (l now : ℕ) → MayAttach (config Server terms) s c l now → Together terms c (Attached l 0 ∷ s)
  server_links l now a = record {
    ends = to_client terms c (Attached l 0 ∷ s) (links limits sizes Server terms s c (to_server terms c s t.ends) l a.unused a.granted (λ k j e f. agree (first_link s) refl k j e f));
    among = λ k e. ⊎_elim (λ f. subst (λ j. was_on j c ≡ true) (sym (eqb-true k l f)) a.named) (λ f. t.among k f) (or_cases (k == l) (was_on k s) e);
  }
    where
      agree : (o : Option ℕ) → first_link s ≡ o → (k j : ℕ) → first_of o (Some l) ≡ Some k → first_link c ≡ Some j → k ≡ j
      agree None e k j f g = go (is_shaken c) refl
        where
          go : (b : Bool) → is_shaken c ≡ b → k ≡ j
          go true h = let p = t.ends.pair.met h in let z : None ≡ Some p.0 = sym e ∙ p.1 in absurd (cc)
          go false h = let p : first_link c ≡ Some l = t.ends.pair.own.one_link h l a.named in cc
      agree (Some i) e k j f g = let f' : i ≡ k = cc in sym f' ∙ sym (t.ends.pair.agree j i g e)

  pub server_steps : (step : EndEvent) → Allowed limits sizes (config Server terms) s c step → Together terms c (step ∷ s)
  server_steps (Attached l now) a = server_links l now a
  server_steps step a = record { ends = to_client terms c (step ∷ s) (steps limits sizes Server terms s c (to_server terms c s t.ends) step (λ l now e. absurd (cc)) a); among = t.among }

pub together : (limits : Side → Limits) (sizes : Sizes) (terms : Terms) (w : List (Event EndEvent)) → IsWorld limits sizes terms w → Together terms (client_of w) (server_of w)
together limits sizes terms [] i = start terms
together limits sizes terms (ByClient step ∷ w) i = client_steps (limits Client) sizes terms (client_of w) (server_of w) (together limits sizes terms w i.0) step i.1
together limits sizes terms (ByServer step ∷ w) i = server_steps (limits Server) sizes terms (client_of w) (server_of w) (together limits sizes terms w i.0) step i.1

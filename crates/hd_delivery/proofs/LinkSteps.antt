-- What one more step makes of the frames of a link, and one more frame of what is read off them.
use Rattle.std.proofs.Common.{◌≡◌, ℕ, true, List, [], ◌∷◌, ◌++◌, take, Some, refl}
use Rattle.std.specs.Prelude.{◌||◌}
use Rattle.hd_delivery.specs.Frames.{LinkFrame, Close}
use Rattle.hd_delivery.specs.Histories.{EndEvent, present_link, stands_on, fed_frames, taken_count, read_frames}
use Rattle.hd_delivery.specs.Due.{has_close}
use Rattle.hd_delivery.specs.HistoryLaws.{LinkGrows, FrameCounts}
use Rattle.hd_delivery.proofs.Lists.{take_next, take_front}
use Rattle.hd_delivery.proofs.Local.{is_this-same, both}
use Rattle.hd_delivery.proofs.Carries.{number-push, most_told-push}

pub grows : (h : List EndEvent) (l : ℕ) → present_link h ≡ Some l → LinkGrows h l
grows h l at = record {
  lent = λ f. rw here refl;
  fed = λ piece within. both (λ ts. take (taken_count l h) ts ≡ read_frames l h) (stands_on l h) (fed_frames l h ++ piece) (fed_frames l h)
      (λ e. take_front (fed_frames l h) piece (taken_count l h) within) (λ e. refl);
  took = λ got f next. rw here (take_next (fed_frames l h) (taken_count l h) f next);
  failed = λ fault f next. rw here (take_next (fed_frames l h) (taken_count l h) f next);
}
  where
    here : stands_on l h ≡ true
    here = is_this-same l (present_link h) at

has_close-push : (ts : List LinkFrame) (t : LinkFrame) → has_close (ts ++ t ∷ []) ≡ (has_close ts || has_close (t ∷ []))
has_close-push [] t = refl
has_close-push (Close error allow ∷ ts) t = refl
has_close-push (_ ∷ ts) t = has_close-push ts t

pub counts : (ts : List LinkFrame) (t : LinkFrame) → FrameCounts ts t
counts ts t = record { next = number-push ts t; told = most_told-push ts t; closes = has_close-push ts t }

-- A list of a fixed length that is filled from its front, one store a turn.
--     Filling                            its length, and what it holds after the first i stores
--     filling_more                       one store more, in the code's `i + 1`
--     filling_all                        after the last
--     filled_front                       and the part that is filled alone
-- Assumes nothing.
use mathlib.Core.Path.{◌≡◌, subst, ◌∙◌}
use mathlib.Core.List.{List}
use Prim.Native.Nat.{ℕ, ◌+◌, ◌<◌}
use native.Mathlib.Omega.{arith}
use borrow.Author.Count.{below_more}
use lib.ListN.{length, get_or, take, set, length-set}
use lib.Seq.{get_or-take, get_or-set_same, get_or-set_other}
use Rattle.hydrostatics.specs.Private.Hull.{Filled}

pub record Filling {A : Type 0} (none : A) (f : ℕ → A) (room i : ℕ) (l : List A) : Type 0 where
  pub long : length l ≡ room
  pub so_far : Filled none f i l

module _ {A : Type 0} {none : A} {f : ℕ → A} {room : ℕ} {l : List A} where
  module _ {i : ℕ} (so : Filling none f room i l) where
    pub filling_more : i < room → {v : A} → v ≡ f i → Filling none f room (i + 1) (set l i v)
    filling_more h {v} e = record {
      long = length-set l i v ∙ so.long;
      so_far = record {
        at =
            below_more (λ k. get_or (set l i v) k none ≡ f k) i
            (λ k below. get_or-set_other l i k v none (λ same. omega arith) ∙ so.so_far.at k below)
            (get_or-set_same l i v none (omega (arith, so.long)) ∙ e);
      };
    }

    pub filling_all : {n : ℕ} → i ≡ n → Filled none f n l
    filling_all e = subst (λ n. Filled none f n l) e so.so_far

pub filled_front : {A : Type 0} {none : A} {f : ℕ → A} {n : ℕ} {l : List A} → Filled none f n l → Filled none f n (take n l)
filled_front {none = none} {n = n} {l = l} so = record { at = λ k h. get_or-take n l k none h ∙ so.at k h }

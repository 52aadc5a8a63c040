-- The crane driver's list: what it says of each slot, and that each slot stands on it once.
--     held                                     what a slot holds by the list
--     held_listed, held_unlisted               a listed slot is filled, and one that is not listed is freed
--     held_entered, held_beside_entered        what is held after a line is entered: in its slot, and in the others;
--     held_struck, held_beside_struck          after one is struck out;
--     held_moved, held_beside_moved            after one has a new place
--     OnceEach, once_struck, once_moved        each slot stands on the list once, and there is such a slot; the steps keep it so
-- Assumes nothing.
use mathlib.Core.Path.{◌≡◌, refl, sym, ◌∙◌}
use mathlib.Core.Bool.{true, false}
use mathlib.Core.List.{List, [], ◌∷◌}
use Prim.Native.Nat.{ℕ, ◌<◌}
use borrow.Author.Tests.{eqb-true, eq-eqb, ne_eqb}
use lib.Dec.{eqb}
use Rattle.arithmetic.specs.Choice.{when◌then◌else◌}
use Rattle.arithmetic.proofs.Choice.{chosen, if_either}
use Rattle.arithmetic.proofs.Tests.{by_test, never}
use Rattle.tally.specs.History.{Line, is_listed, struck, moved}
use Rattle.tally.specs.Steps.{moved_to}
use Rattle.tally.specs.Tally.{slot_count, freed, holding}
use Rattle.tally.specs.declared.Place.{Place}
use Rattle.tally.specs.declared.Slot.{Slot}

unfoldable pub held : List Line → ℕ → Slot
held [] k = freed
held (l ∷ rest) k = when eqb l.slot k then holding l.item else held rest k

-- ---- a listed slot
pub held_listed : (list : List Line) (k : ℕ) → (held list k).filled ≡ is_listed k list
unfolding held is_listed
held_listed [] k = refl
held_listed (l ∷ rest) k =
    by_test (eqb l.slot k) (λ e. simp (e, chosen)) (λ e. simp (e, chosen) (held_listed rest k))

pub held_unlisted : (list : List Line) (k : ℕ) → is_listed k list ≡ false → held list k ≡ freed
unfolding held is_listed
held_unlisted [] k h = refl
held_unlisted (l ∷ rest) k h =
    by_test (eqb l.slot k) (λ e. never (sym (simp e at h))) (λ e. simp (e, chosen) (held_unlisted rest k (simp e at h)))

-- ---- a line entered
pub held_entered : (l : Line) (list : List Line) → held (l ∷ list) l.slot ≡ holding l.item
unfolding held
held_entered l list = simp (eq-eqb l.slot l.slot refl, chosen)

pub held_beside_entered : (l : Line) (list : List Line) (j : ℕ) → (j ≡ l.slot → ⊥) → held (l ∷ list) j ≡ held list j
unfolding held
held_beside_entered l list j other = simp (ne_eqb l.slot j (λ e. other (sym e)), chosen)

-- ---- a line struck out
module _ (k : ℕ) where
  pub held_struck : (list : List Line) → held (struck k list) k ≡ freed
  unfolding held struck
  held_struck [] = refl
  held_struck (l ∷ rest) =
      by_test (eqb l.slot k) (λ e. simp (e, chosen) (held_struck rest)) (λ e. simp (e, chosen) (held_struck rest))

  pub held_beside_struck : (list : List Line) (j : ℕ) → (j ≡ k → ⊥) → held (struck k list) j ≡ held list j
  unfolding held struck
  held_beside_struck [] j other = refl
  held_beside_struck (l ∷ rest) j other =
      by_test (eqb l.slot k)
      (λ e. simp (e, ne_eqb l.slot j (λ q. other (sym q ∙ eqb-true l.slot k e)), chosen) (held_beside_struck rest j other))
      (λ e. by_test (eqb l.slot j) (λ f. simp (e, f, chosen)) (λ f. simp (e, f, chosen) (held_beside_struck rest j other)))

  listed_struck : (list : List Line) (j : ℕ) → is_listed j list ≡ false → is_listed j (struck k list) ≡ false
  unfolding is_listed struck
  listed_struck [] j h = refl
  listed_struck (l ∷ rest) j h =
      by_test (eqb l.slot j) (λ f. never (sym (simp f at h)))
      (λ f. by_test (eqb l.slot k)
      (λ e. simp (e, chosen) (listed_struck rest j (simp f at h)))
      (λ e. simp (e, f, chosen) (listed_struck rest j (simp f at h))))

-- ---- a line at a new place
module _ (k : ℕ) (p : Place) where
  pub held_moved : (list : List Line) → is_listed k list ≡ true → held (moved k p list) k ≡ holding (moved_to p (held list k).item)
  unfolding held moved is_listed
  held_moved [] h = never h
  held_moved (l ∷ rest) h =
      by_test (eqb l.slot k) (λ e. simp (e, chosen)) (λ e. simp (e, chosen) (held_moved rest (simp e at h)))

  pub held_beside_moved : (list : List Line) (j : ℕ) → (j ≡ k → ⊥) → held (moved k p list) j ≡ held list j
  unfolding held moved
  held_beside_moved [] j other = refl
  held_beside_moved (l ∷ rest) j other =
      by_test (eqb l.slot k)
      (λ e. simp (e, ne_eqb l.slot j (λ q. other (sym q ∙ eqb-true l.slot k e)), chosen) (held_beside_moved rest j other))
      (λ e. by_test (eqb l.slot j) (λ f. simp (e, f, chosen)) (λ f. simp (e, f, chosen) (held_beside_moved rest j other)))

  listed_moved : (list : List Line) (j : ℕ) → is_listed j (moved k p list) ≡ is_listed j list
  unfolding is_listed moved
  listed_moved [] j = refl
  listed_moved (l ∷ rest) j =
      by_test (eqb l.slot k)
      (λ e. simp (e, chosen, listed_moved rest j))
      (λ e. simp (e, chosen, listed_moved rest j))

-- ---- each slot once
pub data OnceEach : List Line → Type 0 where
  none : OnceEach []
  more : {l : Line} {rest : List Line} → l.slot < slot_count → is_listed l.slot rest ≡ false → OnceEach rest → OnceEach (l ∷ rest)

pub once_struck : (k : ℕ) {list : List Line} → OnceEach list → OnceEach (struck k list)
unfolding struck
once_struck k none = none
once_struck k (more {l} {rest} there alone once) =
    if_either OnceEach (eqb l.slot k)
    (λ e. once_struck k once)
    (λ e. more there (listed_struck k rest l.slot alone) (once_struck k once))

pub once_moved : (k : ℕ) (p : Place) {list : List Line} → OnceEach list → OnceEach (moved k p list)
unfolding moved
once_moved k p none = none
once_moved k p (more {l} {rest} there alone once) =
    let still = listed_moved k p rest l.slot ∙ alone in
    if_either (λ l. OnceEach (l ∷ moved k p rest)) (eqb l.slot k)
    (λ e. more there still (once_moved k p once))
    (λ e. more there still (once_moved k p once))

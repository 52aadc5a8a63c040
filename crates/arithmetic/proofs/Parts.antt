-- Lists in parts, in the shapes that loops, stores and lent parts of a table leave; over any element.
--     drop_step, take_step         one element more, in the code's `i + 1`
--     part_end, rest_end           a part from a place to the end is the rest; nothing lies after it
--     store_next                   a list filled up to i, one store on
--     stored_front, stored_behind    values stored one after another from a place on: the list up to their end, and up to the place
--     Stored, stored_none, stored_more, stored_all, stored_full     a list that a loop stores to from its front: so far, one store on, and at the end
--     part_filled                  a part lent from a on came back filled in front: the whole is filled so much further
-- Assumes nothing.
use mathlib.Core.Path.{◌≡◌, refl, sym, ap, ◌∙◌}
use mathlib.Core.List.{List, [], ◌∷◌, ◌++◌, append_assoc, append-nil}
use Prim.Native.Nat.{ℕ, ◌+◌, ◌-◌, ◌<◌, ◌≤◌}
use native.Mathlib.Numerals.{add-one}
use native.Mathlib.Omega.{arith}
use lib.ListN.{length, take, drop, get_or, set, length-append, length-drop, length-set, drop_of_length-le}
use lib.Seq.{take-suc, drop-cons, take_all, take-length, take_at, drop_at, drop-drop, set_at, sets, sets-eq, length-take-le}

module _ {A : Type 0} where
  pub drop_step : (s : List A) (i : ℕ) (d : A) → i < length s → drop i s ≡ get_or s i d ∷ drop (i + 1) s
  drop_step s i d h = rw (add-one, drop-cons s i d)

  pub take_step : (s : List A) (i : ℕ) (d : A) → i < length s → take (i + 1) s ≡ take i s ++ (get_or s i d ∷ [])
  take_step s i d h = rw add-one (take-suc s i d h)

  pub part_end : (a : ℕ) (s : List A) → take (length s - a) (drop a s) ≡ drop a s
  part_end a s = take_all (length s - a) (drop a s) (omega (arith, length-drop a s))

  pub rest_end : (a : ℕ) (s : List A) → drop (length s - a) (drop a s) ≡ []
  rest_end a s =
      let h : length (drop a s) ≤ length s - a = omega (arith, length-drop a s) in drop_of_length-le (drop a s) h

  -- `done` stands in front of what was there, and the next place is stored to
  pub store_next : (done was : List A) (i : ℕ) (v : A) → length done ≡ i → i < length was → set (done ++ drop i was) i v ≡ (done ++ (v ∷ [])) ++ drop (i + 1) was
  store_next done was i v e h =
      ap (λ l. set (done ++ l) i v) (drop_step was i v h)
      ∙ set_at done (get_or was i v) (drop (i + 1) was) v i e
      ∙ sym (append_assoc done (v ∷ []) (drop (i + 1) was))

  pub stored_front : (vs l : List A) (i : ℕ) → i + length vs ≤ length l → take (i + length vs) (sets l i vs) ≡ take i l ++ vs
  stored_front vs l i h =
      let long : length (take i l ++ vs) ≡ i + length vs = length-append (take i l) vs ∙ ap (λ n. n + length vs) (length-take-le i l (omega arith)) in
      ap (take (i + length vs)) (sets-eq vs l i h)
      ∙ take_at (take i l ++ vs) (drop (i + length vs) l) (i + length vs) long

  pub stored_behind : (vs l : List A) (i : ℕ) → i + length vs ≤ length l → take i (sets l i vs) ≡ take i l
  stored_behind vs l i h =
      ap (take i) (sets-eq vs l i h ∙ append_assoc (take i l) vs (drop (i + length vs) l))
      ∙ take_at (take i l) (vs ++ drop (i + length vs) l) i (length-take-le i l (omega arith))

  -- `done` stands before place a, and the part from a on came back with `more` in front of what was there
  pub part_filled :
      (a k : ℕ) (done more s was back : List A)
      → length done ≡ a
      → s ≡ done ++ drop a was
      → back ≡ more ++ drop k (take (length s - a) (drop a s))
      → take a s ++ (back ++ drop (length s - a) (drop a s)) ≡ (done ++ more) ++ drop (a + k) was
  part_filled a k done more s was back l e f =
      let front : take a s ≡ done = rw (e, take_at done (drop a was) a l) in
      let behind : drop a s ≡ drop a was = rw (e, drop_at done (drop a was) a l) in
      rw (f, rest_end a s, part_end a s, front, behind, append-nil, drop-drop, append_assoc)

module _ {A : Type 0} (whole was : List A) where
  -- the first i of the whole stand in front of what was there
  pub record Stored (l : List A) (i : ℕ) : Type 0 where
    pub as_long : length l ≡ length was
    pub stored_is : l ≡ take i whole ++ drop i was

  pub stored_none : Stored was 0
  stored_none = record { as_long = refl; stored_is = refl }

  module _ {l : List A} {i : ℕ} (so : Stored l i) where
    pub stored_more : i < length whole → i < length was → (d : A) {v : A} → v ≡ get_or whole i d → Stored (set l i v) (i + 1)
    stored_more h room d {v} e = record {
      as_long = length-set l i v ∙ so.as_long;
      stored_is =
          ap (λ l. set l i v) so.stored_is
          ∙ store_next (take i whole) was i v (length-take-le i whole (omega arith)) room
          ∙ ap (λ l. l ++ drop (i + 1) was) (ap (λ k. take i whole ++ (k ∷ [])) e ∙ sym (take_step whole i d h));
    }

    pub stored_all : i ≡ length whole → l ≡ whole ++ drop (length whole) was
    stored_all e =
        so.stored_is ∙ ap (λ k. take k whole ++ drop k was) e ∙ ap (λ l. l ++ drop (length whole) was) (take-length whole)

    pub stored_full : i ≡ length whole → length was ≡ length whole → l ≡ whole
    stored_full e full =
        let h : length was ≤ length whole = omega arith in
        stored_all e ∙ ap (λ l. whole ++ l) (drop_of_length-le was h) ∙ append-nil whole

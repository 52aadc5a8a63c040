-- Lines put one after another, over the numbers of any type.
--     line_next, line_last         what is left of a line is its next number and the others; its last number
--     rows_next, rows_last         what is left of the lines of a table is the next one and the others; nothing
-- Assumes nothing.
use mathlib.Core.Path.{◌≡◌, refl, sym, ap, ◌∙◌}
use mathlib.Core.List.{List, [], ◌∷◌, ◌++◌, map, map-append, append_assoc, append-nil}
use Prim.Native.Nat.{ℕ, suc, ◌+◌, ◌-◌, ◌/◌, ◌≤◌, ◌<◌}
use native.Mathlib.Nat.{add-div_left, div-eq_of_lt}
use native.Mathlib.Omega.{arith}
use lib.IntN.{ℤ}
use lib.ListN.{length, take, drop, get_or, drop_of_length-le, length-append, length-map}
use lib.Seq.{length-take-le, take_at, drop_at}
use Rattle.std.proofs.lemmas.List.{get_or-take}
use Rattle.arithmetic.proofs.Parts.{drop_step}
use Rattle.numerals.specs.Printed.{printed}
use Rattle.numerals.specs.declared.lines.Lines.{Lines}
use Rattle.numerals.proofs.Pieces.{Leads}
use Rattle.writer.specs.Private.Putting.{rows_text}
use Rattle.offsets.specs.Tokens.{space, line_feed}
use Rattle.writer.specs.Written.{line, lines}

module _ {A : Type 0} (value : A → ℤ) (numbers : List A) (i : ℕ) (x : A) where
  line_more : i + 1 < length numbers → x ≡ get_or numbers i x → line (map value (drop i numbers)) ≡ (printed (value x) ++ space ∷ []) ++ line (map value (drop (i + 1) numbers))
  unfolding line
  line_more h is =
      rw (drop_step numbers i x (omega arith), ← is, drop_step numbers (i + 1) x h)
      (sym (append_assoc (printed (value x)) (space ∷ []) _))

  line_ends : i + 1 ≡ length numbers → x ≡ get_or numbers i x → line (map value (drop i numbers)) ≡ (printed (value x) ++ line_feed ∷ []) ++ []
  unfolding line
  line_ends h is =
      let end : length numbers ≤ i + 1 = omega arith in
      rw (drop_step numbers i x (omega arith), ← is, drop_of_length-le numbers end) (sym (append-nil _))

  -- all the numbers but the last are passed before it
  before : length (take (length numbers - 1) numbers) ≡ length numbers - 1
  before = length-take-le (length numbers - 1) numbers (omega arith)

  module _ {now was : Lines} {whole : List ℕ} (l : Leads (line (map value (drop i numbers))) now whole was) where
    pub line_next : i < length (take (length numbers - 1) numbers) → x ≡ get_or (take (length numbers - 1) numbers) i x → Leads ((printed (value x) ++ space ∷ []) ++ line (map value (drop (i + 1) numbers))) now whole was
    line_next h is =
        let inside : i < length numbers - 1 = omega (arith, before) in
        rw (← line_more (omega arith) (is ∙ get_or-take (length numbers - 1) numbers i x inside)) l

    pub line_last : length (take (length numbers - 1) numbers) ≡ i → 0 < length numbers → x ≡ get_or numbers (length numbers - 1) x → Leads ((printed (value x) ++ line_feed ∷ []) ++ []) now whole was
    line_last h some is = let at : length numbers - 1 ≡ i = sym before ∙ h in rw (← line_ends (omega arith) (rw at at is)) l

-- ---- the lines of a table
rows_more : (width : ℕ) (front rest : List ℤ) → length front ≡ width → 0 < width → rows_text width (front ++ rest) ≡ line front ++ rows_text width rest
unfolding lines
rows_more width front rest wide some =
    let count : length (front ++ rest) / width ≡ suc (length rest / width) =
    ap (λ n. n / width) (length-append front rest ∙ ap (λ n. n + length rest) wide) ∙ add-div_left (length rest) some ∙ omega arith in
    rw (count, take_at front rest width wide, drop_at front rest width wide) refl

rows_end : (width : ℕ) (rest : List ℤ) → length rest < width → rows_text width rest ≡ []
unfolding lines
rows_end width rest few = rw (div-eq_of_lt few) refl

module _ {A : Type 0} (value : A → ℤ) (width : ℕ) {now was : Lines} {whole : List ℕ} (rest : List A) (l : Leads (rows_text width (map value rest)) now whole was) where
  pub rows_next : (front more : List A) → rest ≡ front ++ more → length front ≡ width → 0 < width → Leads (line (map value front) ++ rows_text width (map value more)) now whole was
  rows_next front more e wide some =
      rw (← rows_more width (map value front) (map value more) (length-map front value ∙ wide) some, ← map-append, ← e) l

  pub rows_last : length rest < width → Leads [] now whole was
  rows_last few = rw (rows_end width (map value rest) (omega (arith, length-map rest value))) at l

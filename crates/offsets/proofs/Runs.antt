-- A run of numbers, read into the front of a table one after another: what is read and what is still to be read are the whole run.
--     range_at                   the range of the next number
--     Run                        that
--     run_starts, run_goes_on    before the first number; one number more
--     run_refused, run_ends      a number is refused; all are read
-- Assumes nothing.
use mathlib.Core.Path.{◌≡◌, refl, sym, ap, ◌∙◌}
use mathlib.Core.List.{List, [], ◌∷◌, ◌++◌, append_assoc, append-nil, map}
use Prim.Native.Nat.{ℕ, suc, ◌+◌, ◌-◌, ◌%◌, ◌≤◌, ◌<◌}
use native.Mathlib.Nat.{sub-zero, mod-lt}
use native.Mathlib.Numerals.{add-one}
use native.Mathlib.Omega.{arith}
use lib.IntN.{ℤ}
use lib.ListN.{length, take, set, get_or, length-map}
use Rattle.std.proofs.lemmas.List.{get_or-map, take_all}
use lib.Seq.{take-suc-set}
use Rattle.ranges.specs.Fields.{Range, ◌to◌}
use Rattle.ranges.specs.Outcome.{Outcome, answered, refused, and_then}
use Rattle.ranges.specs.Bounds.{range_by}
use Rattle.ranges.specs.Refusals.{out_of_range}
use Rattle.ranges.specs.declared.bounds.Bounds.{Bounds}
use Rattle.offsets.specs.Reading.{one, numbers}
use Rattle.offsets.specs.Private.Steps.{tokens_at, ranges_from}
use Rattle.offsets.specs.Tokens.{Token}

-- the range that the code holds number i to is that of its place in a record
pub range_at : (bounds : List Bounds) {fields : List Range} (d : Bounds) → map range_by bounds ≡ fields → 0 < length bounds → (i : ℕ) → range_by (get_or bounds (i % length bounds) d) ≡ get_or fields (i % length fields) (1 to 0)
range_at bounds d e some i =
    sym
    (ap (λ s. get_or s (i % length s) (1 to 0)) (sym e) ∙ ap (λ k. get_or (map range_by bounds) (i % k) (1 to 0)) (length-map bounds range_by)
    ∙ get_or-map range_by bounds (i % length bounds) d (1 to 0) (mod-lt i some))

-- numbers that were read before others
unfoldable pub after : List ℤ → Outcome (List ℤ × List Token) → Outcome (List ℤ × List Token)
after read m = and_then m (λ r. answered (read ++ r.0, r.1))

after_none : (m : Outcome (List ℤ × List Token)) → m ≡ after [] m
unfolding after and_then
after_none (answered r) = refl
after_none (refused number place) = refl

after_one : (read : List ℤ) (v : ℤ) (m : Outcome (List ℤ × List Token)) → after read (and_then m (λ r. answered (v ∷ r.0, r.1))) ≡ after (read ++ v ∷ []) m
unfolding after and_then
after_one read v (answered r) = rw append_assoc
after_one read v (refused number place) = refl

module _ (text : List ℕ) (fields : List Range) (n from : ℕ) where
  abbrev pub whole : Outcome (List ℤ × List Token)
  whole = numbers (length text) (ranges_from fields n 0) (tokens_at text from)

  -- the numbers from number i of the run on, at a place
  abbrev pub left : ℕ → ℕ → Outcome (List ℤ × List Token)
  left i next = numbers (length text) (ranges_from fields (n - i) i) (tokens_at text next)

  unfoldable pub Run : List ℤ → ℕ → ℕ → Type 0
  Run table i next = whole ≡ after (take i table) (left i next)

  pub run_starts : (table : List ℤ) → Run table 0 from
  unfolding Run
  run_starts table = rw sub-zero (after_none _)

  module _ (table : List ℤ) (i next : ℕ) (run : Run table i next) where
    module _ (h : i < n) where
      one_less : n - i ≡ suc (n - (i + 1))
      one_less = omega arith

      -- the next number, in the range of its place in a record
      abbrev pub another : Outcome (ℤ × List Token)
      another = one (length text) out_of_range (get_or fields (i % length fields) (1 to 0)) (tokens_at text next)

      pub run_goes_on : (v : ℤ) (place : ℕ) → i < length table → another ≡ answered (v, tokens_at text place) → Run (set table i v) (i + 1) place
      unfolding Run numbers ranges_from and_then
      run_goes_on v place l e = run ∙ rw (one_less, e, add-one i, take-suc-set table i v l) (after_one (take i table) v _)

      pub run_refused : {why place : ℕ} → another ≡ refused why place → whole ≡ refused why place
      unfolding Run numbers ranges_from after and_then
      run_refused e = run ∙ rw (one_less, e)

    pub run_ends : n ≤ i → length table ≤ n → i ≤ n → whole ≡ answered (table, tokens_at text next)
    unfolding Run numbers ranges_from after and_then
    run_ends h l k =
        let none : n - i ≡ 0 = omega arith in
        let all : take i table ≡ table = take_all i table (omega arith) in
        run ∙ rw (none, all, append-nil)

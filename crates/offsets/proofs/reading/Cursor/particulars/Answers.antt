-- The numbers are tried one by one, and then their length; s stands after n and m. Assumes nothing.
use mathlib.Core.Path.{◌≡◌, sym, ap, ◌∙◌}
use Rattle.std.proofs.lemmas.Result.{err_from_is_err_and}
use Rattle.ranges.specs.Fields.{particulars, spacing}
use Rattle.ranges.specs.Limits.{limits}
use Rattle.ranges.specs.Outside.{numbers_of, particulars_of, too_long}
use Rattle.offsets.proofs.Chain.{ranges_of_record}
use Rattle.offsets.proofs.Particulars.{place_read, hull_refused, hull_long, hull_short, hull_wholes, hull_named}
use mathlib.Core.List.{map}
use lib.IntN.{pos, nat_abs}
use lib.ListN.{length, get_or}
use native.Mathlib.Omega.{arith}
use Rattle.ranges.specs.Outcome.{answered}
use Rattle.offsets.specs.Reading.{numbers}
use Rattle.offsets.specs.Private.Steps.{tokens_at}
use Rattle.offsets.specs.Tokens.{no_number, place_of}
use Rattle.offsets.proofs.reading.Cursor.particulars.Goals as goal
use Rattle.offsets.proofs.reading.Cursor.particulars.Goals.{In_ok-numbers, After-from-particulars}

pub returns-in_err-numbers : goal.returns-in_err-numbers
returns-in_err-numbers c =
    let p = err_from_is_err_and c.from_residual.result c.from_residual.ensures.1 in
    let numbers = c.in_err-numbers.ensures in
    rw (p.1, p.2) (record { same_text = numbers.same_text; read = hull_refused _ _ (rw (ranges_of_record particulars) at numbers.read) })

-- the numbers that were read, and the particulars that they make
read : (c : In_ok-numbers) → numbers (length c.args.self.now.text.now) particulars (tokens_at c.args.self.now.text.now c.args.self.now.next) ≡ answered (c.numbers.new.table, tokens_at c.args.self.now.text.now c.numbers.new.self.next)
read c = rw (ranges_of_record particulars) at c.in_ok-numbers.ensures.read

named : (c : After-from-particulars) → map pos (map nat_abs c.numbers.new.table) ≡ c.numbers.new.table → c.from-particulars.result ≡ particulars_of c.numbers.new.table
named c wholes = c.from-particulars.ensures ∙ ap (λ vs. particulars_of vs) (ap (map pos) c.sizes.ensures ∙ wholes)

pub returns-then-is_too_long : goal.returns-then-is_too_long
returns-then-is_too_long c =
    let text = c.args.self.now.text.now in
    let ts = tokens_at text c.args.self.now.next in
    let read = read (goal.at.returns-then-is_too_long c).In_ok-numbers in
    let same = c.in_ok-numbers.ensures.same_text in
    let named = named (goal.at.returns-then-is_too_long c).After-from-particulars (hull_wholes _ _ c.numbers.new.table read) in
    let place : c.unwrap_or.result ≡ place_of (get_or ts spacing (no_number (length text))) =
    c.unwrap_or.ensures ∙ rw (c.place_after-spacing.ensures, same, place_read (length text) (length text) spacing particulars ts (omega arith) read)
    in
    record {
      same_text = same;
      read = rw (c.at.ensures, place) (hull_long _ _ c.numbers.new.table read (ap (too_long limits) (sym named) ∙ sym c.is_too_long.ensures ∙ c.if-is_too_long.true));
    }

pub returns : goal.returns
returns c =
    let text = c.args.self.now.text.now in
    let read = read (goal.at.returns c).In_ok-numbers in
    let named = named (goal.at.returns c).After-from-particulars (hull_wholes _ _ c.numbers.new.table read) in
    let numbers : numbers_of c.from-particulars.result ≡ c.numbers.new.table = ap numbers_of named ∙ hull_named _ _ c.numbers.new.table read in
    record {
      same_text = c.in_ok-numbers.ensures.same_text;
      read =
          hull_short _ _ c.numbers.new.table read (ap (too_long limits) (sym named) ∙ sym c.is_too_long.ensures ∙ c.if-is_too_long.false)
          ∙ ap (λ vs. answered (vs, tokens_at text c.numbers.new.self.next)) (sym numbers);
    }

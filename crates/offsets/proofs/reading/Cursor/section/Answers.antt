-- A count, and then the numbers of so many records. Assumes nothing.
use Prim.Native.Nat.{◌*◌}
use mathlib.Core.Path.{◌≡◌, sym, ap, ◌∙◌}
use native.Mathlib.Nat.{mul-le-mul_left}
use native.Mathlib.Omega.{arith}
use mathlib.Core.List.{◌++◌}
use lib.ListN.{length, take, drop, length-map}
use lib.Seq.{length-take-le, take_at}
use Rattle.ranges.specs.Outcome.{answered}
use Rattle.offsets.specs.Private.Steps.{tokens_at, front}
use Rattle.std.proofs.lemmas.Result.{err_from_is_err_and}
use Rattle.ranges.specs.Bounds.{range_by, section_of}
use Rattle.offsets.proofs.Chain.{section_stops, section_goes_on}
use Rattle.offsets.proofs.reading.Cursor.section.Goals as goal
use Rattle.offsets.proofs.reading.Cursor.section.Goals.{After-numbers}

-- so many numbers are read
many : (c : After-numbers) → length (take (length c.bounds.result.now * c.in_ok-count.count) c.args.table.now) ≡ length (section_of c.args.kind) * c.in_ok-count.count
many c =
    let width : length c.bounds.result.now ≡ length (section_of c.args.kind) = sym (length-map c.bounds.result.now range_by) ∙ ap length c.bounds.ensures.ranges in
    let fits = mul-le-mul_left (length (section_of c.args.kind)) c.in_ok-count.ensures.bounded.1 in
    let count = c.in_ok-count.count in
    rw width (length-take-le (length (section_of c.args.kind) * count) c.args.table.now (omega (arith, fits, c.requires)))

-- and stand in front of the table
all_in_front : (c : After-numbers) → front (section_of c.args.kind) (c.numbers.new.table ++ drop (length c.bounds.result.now * c.in_ok-count.count) c.args.table.now) c.in_ok-count.count ≡ c.numbers.new.table
all_in_front c = take_at c.numbers.new.table _ _ (c.numbers.auto.table ∙ many c)

pub returns-in_err-count : goal.returns-in_err-count
returns-in_err-count c =
    let p = err_from_is_err_and c.from_residual.result c.from_residual.ensures.1 in
    let count = c.in_err-count.ensures.reads in
    rw (p.1, p.2) (record { reads = record { same_text = count.same_text; read = section_stops _ _ _ _ _ count.read }; bounded = tt })

pub returns-in_err-numbers : goal.returns-in_err-numbers
returns-in_err-numbers c =
    let p = err_from_is_err_and c.from_residual-in_err-numbers.result c.from_residual-in_err-numbers.ensures.1 in
    let count = c.in_ok-count.ensures.reads in
    let numbers = c.in_err-numbers.ensures in
    rw (p.1, p.2)
    (record {
      reads = record {
        same_text = numbers.same_text ∙ count.same_text;
        read = section_goes_on _ _ _ _ _ count.read _ (many (goal.at.returns-in_err-numbers c).After-numbers) (rw count.same_text at numbers.read);
      };
      bounded = tt;
    })

pub returns : goal.returns
returns c =
    let count = c.in_ok-count.ensures.reads in
    let numbers = c.in_ok-numbers.ensures in
    record {
      reads = record {
        same_text = numbers.same_text ∙ count.same_text;
        read = section_goes_on _ _ _ _ _ count.read _ (many (goal.at.returns c).After-numbers) (rw count.same_text at numbers.read) ∙ ap (λ read. answered (read, tokens_at c.args.self.now.text.now c.numbers.new.self.next)) (sym (all_in_front (goal.at.returns c).After-numbers));
      };
      bounded = c.in_ok-count.ensures.bounded;
    }

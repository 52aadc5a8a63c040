-- Against the first row, against the last, and else afloat between them. Assumes nothing.
use mathlib.Core.Path.{◌≡◌, refl, sym, ap, ◌∙◌}
use native.Mathlib.Omega.{arith}
use Prim.Native.Nat.{ℕ, ◌-◌, ◌<◌}
use Rattle.hydrostatics.specs.Usable.{row_in}
use Rattle.loading.specs.Private.Afloat.{count_of, Within}
use Rattle.loading.specs.declared.rows.Rows.{Rows}
use Rattle.loading.specs.Table.{hull}
use Rattle.loading.proofs.Order.{is_too_light, is_too_heavy, within_table, floats_there}
use Rattle.loading.proofs.Trying.{lent_usable}
use Rattle.loading.proofs.Usability.{usable_at}
use Rattle.loading.proofs.laden.Goals as goal
use Rattle.loading.proofs.laden.Goals.{Else-displacement-weight}

-- a usable table has rows
some : (rows : Rows) → 0 < count_of rows.numbers.now
some rows = omega (arith, (lent_usable rows.numbers.now rows.usable).size.least)

-- and the last is the one before their count
last_at : (rows : Rows) {count last : ℕ} → count ≡ count_of rows.numbers.now → last ≡ (row_in rows.numbers.now (count - 1)).displacement → last ≡ (row_in rows.numbers.now (count_of rows.numbers.now - 1)).displacement
last_at rows e f = f ∙ ap (λ n. (row_in rows.numbers.now (n - 1)).displacement) e

pub displacement-requires : goal.displacement-requires
displacement-requires c = some c.args.rows

pub overflow_sub-count : goal.overflow_sub-count
overflow_sub-count c = omega (arith, c.count.ensures, some c.args.rows)

pub displacement-requires-2 : goal.displacement-requires-2
displacement-requires-2 c = omega (arith, c.count.ensures, some c.args.rows)

within : (c : Else-displacement-weight) → Within (hull c.args.rows.numbers.now) c.args.all.weight
within c =
    within_table c.args.rows.numbers.now (some c.args.rows) c.args.all c.displacement.ensures (last_at c.args.rows c.count.ensures c.displacement-2.ensures) c.if-weight-displacement.false c.if-displacement-weight.false

pub returns-then-weight-displacement : goal.returns-then-weight-displacement
returns-then-weight-displacement c =
    rw c.at.ensures (sym (is_too_light c.args.rows.numbers.now (some c.args.rows) c.args.all c.displacement.ensures refl _ c.if-weight-displacement.true))

pub returns-then-displacement-weight : goal.returns-then-displacement-weight
returns-then-displacement-weight c =
    rw c.at-then-displacement-weight.ensures (sym (is_too_heavy c.args.rows.numbers.now (some c.args.rows) c.args.all c.displacement.ensures (last_at c.args.rows c.count.ensures c.displacement-2.ensures) c.if-weight-displacement.false _ c.if-displacement-weight.true))

pub afloat-floating-requires : goal.afloat-floating-requires
afloat-floating-requires c = within c

pub new-requires : goal.new-requires
new-requires c =
    record {
      bearable = c.requires;
      some = omega (arith, (within (goal.at.new-requires c).Else-displacement-weight).least, (usable_at c.args.rows.numbers.now _ (lent_usable c.args.rows.numbers.now c.args.rows.usable) 0 (some c.args.rows)).ranged.displacement.0);
      km_most = c.afloat-floating.ensures.km_most;
    }

pub returns : goal.returns
returns c =
    floats_there c.args.rows.numbers.now (some c.args.rows) c.args.all c.displacement.ensures (last_at c.args.rows c.count.ensures c.displacement-2.ensures) c.if-weight-displacement.false c.if-displacement-weight.false
    c.afloat-floating.ensures c.new.ensures

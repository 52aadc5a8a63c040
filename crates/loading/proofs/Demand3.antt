-- Demand 3, of the conditions themselves, by one reading of KM, whichever it is: "Heavier never floats higher; equal weights float alike; lowering weights, or shrinking a tank's
-- surface, never lowers GM nor turns a pass into a fail; GM is never above the unrounded GM and less than 3 mm below it."
--     draft_is_greatest                    the draft is the greatest whole one whose straight-line displacement does not exceed the weight
--     gm_is_close                          GM against the unrounded GM
-- and of two conditions over the same rows:
--     heavier_never_floats_higher, equal_weights_float_alike
--     lowering_never_lowers_gm, lowering_keeps_a_pass
-- and of the tables that are lent for them:
--     lowering_never_costs_the_answer      what was answered is answered again when it is lowered, and no worse
--     tried, is                            what is answered was tried, and is the condition of its load
-- The same for any sound rules of KM and free surface: `Demand`; what the laws of a rule are: `Laws`.
-- Assumes nothing.
use mathlib.Core.Path.{◌≡◌, ap₂}
use mathlib.Core.List.{List}
use Prim.Native.Nat.{ℕ, ◌/◌, ◌≤◌}
use lib.Dec.{T}
use lib.IntN.{ℤ}
use lib.Signed.{◌≤ℤ◌}
use Rattle.ranges.specs.Outcome.{answered}
use Rattle.loading.specs.Condition.{condition_at, condition_by}
use Rattle.loading.specs.Demand.{LoweredTables, NoWorse}
use Rattle.loading.specs.Fraction.{LessThanThreeBelow}
use Rattle.loading.specs.Load.{Load, Lowered}
use Rattle.loading.specs.Paper.{paper_rules}
use Rattle.loading.specs.Records.{load_of}
use Rattle.loading.specs.Stability.{unrounded_gm}
use Rattle.loading.specs.Straight.{Greatest}
use Rattle.loading.specs.Table.{hull}
use Rattle.loading.specs.declared.Condition.{Condition}
use Rattle.loading.specs.declared.Reading.{Reading}
use Rattle.loading.proofs.Answers.{Tried, answer_says, tried_answered, rows_are_usable}
use Rattle.loading.proofs.Demand.{Demand3}
use Rattle.loading.proofs.Lowered.{tried_again}
use Rattle.loading.proofs.Lowering.{lower_weight, lower_longitudinal, lower_transverse}
use Rattle.loading.proofs.Readings.{demand_3_of_the_paper}

-- c is what the call answers by this reading for some items and tanks over these rows
pub record ConditionOver (reading : Reading) (rows : List ℕ) (c : Condition) : Type 0 where
  pub items : List ℤ
  pub tanks : List ℤ
  pub given : condition_by reading items tanks rows ≡ answered c

module _ {reading : Reading} {rows : List ℕ} {c : Condition} (a : ConditionOver reading rows c) where
  abbrev pub aboard : Load
  aboard = load_of a.items a.tanks

  pub tried : Tried a.items a.tanks rows
  tried = (answer_says reading a.items a.tanks rows a.given).0

  pub is : c ≡ condition_at reading (hull rows) aboard
  is = (answer_says reading a.items a.tanks rows a.given).1

  demand : Demand3 (paper_rules reading) (hull rows)
  demand = demand_3_of_the_paper reading (hull rows) (rows_are_usable tried)

  pub draft_is_greatest : Greatest (hull rows) c.weight c.draft
  unfolding condition_at
  draft_is_greatest = rw (is) (demand.draft_is_greatest aboard tried.within)

  pub gm_is_close : LessThanThreeBelow c.gm (unrounded_gm (paper_rules reading) (hull rows) aboard)
  unfolding condition_at
  gm_is_close = rw (is) (demand.gm_is_close aboard tried.within)

-- of two conditions over the same rows
module _ {reading : Reading} {rows : List ℕ} {c d : Condition} (a : ConditionOver reading rows c) (b : ConditionOver reading rows d) where
  pub heavier_never_floats_higher : c.weight ≤ d.weight → c.draft ≤ d.draft
  unfolding condition_at
  heavier_never_floats_higher =
      rw (is a, is b) ((demand a).heavier_never_floats_higher (aboard a) (aboard b) (tried a).within (tried b).within)

  pub equal_weights_float_alike : c.weight ≡ d.weight → (c.draft ≡ d.draft) × (c.km ≡ d.km)
  unfolding condition_at
  equal_weights_float_alike = rw (is a, is b) ((demand a).equal_weights_float_alike (aboard a) (aboard b))

  pub lowering_never_lowers_gm : Lowered (aboard a) (aboard b) → d.gm ≤ℤ c.gm
  unfolding condition_at
  lowering_never_lowers_gm =
      rw (is a, is b) ((demand a).lowering_never_lowers_gm (aboard a) (aboard b) (tried b).within)

  pub lowering_keeps_a_pass : Lowered (aboard a) (aboard b) → T d.passes → T c.passes
  unfolding condition_at
  lowering_keeps_a_pass =
      rw (is a, is b) ((demand a).lowering_keeps_a_pass (aboard a) (aboard b) (tried b).within)

-- of the lent tables
pub lowering_never_costs_the_answer : (reading : Reading) (rows : List ℕ) {items' tanks' items tanks : List ℤ} {c : Condition}
    → condition_by reading items tanks rows ≡ answered c → LoweredTables items' tanks' items tanks
    → (d : Condition) × (condition_by reading items' tanks' rows ≡ answered d) × NoWorse d c
unfolding condition_at
lowering_never_costs_the_answer reading rows {items'} {tanks'} {items} {tanks} {c} e low =
    let before : ConditionOver reading rows c = record { items = items; tanks = tanks; given = e } in
    let again = tried_answered reading items' tanks' rows (tried_again low (tried before)) in
    let d = condition_at reading (hull rows) (load_of items' tanks') in
    let after : ConditionOver reading rows d = record { items = items'; tanks = tanks'; given = again } in
    let k = load_of items' tanks' in
    let l = load_of items tanks in
    let same = lower_weight k l low.lowered in
    let floats = equal_weights_float_alike after before in (
      d,
      again,
      record {
        weight = rw (is before) same;
        draft = (floats (rw (is before) same)).0;
        km = (floats (rw (is before) same)).1;
        lcg = rw (is before) (ap₂ ◌/◌ (lower_longitudinal k l low.lowered) same);
        transverse_moment = rw (is before) (lower_transverse k l low.lowered);
        gm = lowering_never_lowers_gm after before low.lowered;
        pass = lowering_keeps_a_pass after before low.lowered;
      },
    )

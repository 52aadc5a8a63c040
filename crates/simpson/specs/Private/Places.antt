-- The multipliers by place, as the paper's table shows them: what the code computes. They are those of `Multipliers` at every n and i, by `by_place` of proofs/ByPlace.
use Rattle.std.specs.Prelude.{ℕ, ◌-◌, ◌%◌, eqb, ltb}
use Rattle.arithmetic.specs.Choice.{when◌then◌else◌}

-- the first rule, repeated: 8 at both ends, 16 where it meets itself, 32 between
unfoldable pub repeated_first : ℕ → ℕ → ℕ
repeated_first n i =
    when eqb i 0 then 8
    else when eqb i n then 8
    else when eqb (i % 2) 0 then 16
    else 32

-- the same but for the last three intervals, which are the second rule's: 9 at its ends and 27 between; where the first rule meets it, 8 and 9 are 17
unfoldable pub second_last : ℕ → ℕ → ℕ
second_last n i =
    let left = n - i in
    when eqb left 0 then 9
    else when ltb left 3 then 27
    else when ltb 3 left then repeated_first n i
    else when eqb i 0 then 9
    else 17

-- no rule for fewer than two intervals, and no station beyond the last
unfoldable pub placed : ℕ → ℕ → ℕ
placed n i =
    when ltb n 2 then 0
    else when ltb n i then 0
    else when eqb (n % 2) 0 then repeated_first n i
    else second_last n i

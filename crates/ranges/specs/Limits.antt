-- How long a hull and its file may be. The definitions take these from a record, so that the same can be said of other limits.
use Rattle.std.specs.Prelude.{ℕ}

pub record Limits : Type 0 where
  -- n intervals of length
  pub most_intervals : ℕ
  -- n·s, mm from the first station to the last
  pub longest_hull : ℕ
  -- bytes
  pub longest_file : ℕ

-- "Raise n to 80, with n·s at most 100,000, and the file to 32,768 bytes."
abbrev pub limits : Limits
limits = record { most_intervals = 80; longest_hull = 100_000; longest_file = 32_768 }

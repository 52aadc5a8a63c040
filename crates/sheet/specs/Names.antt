-- The readings of KM by name, each a word on the command line, and what a command line asks for.
use Rattle.std.specs.Prelude.{ℕ, ◌<◌, ◌≡◌, List, [], ◌∷◌, Option, None, Some}
use Rattle.loading.specs.Paper.{default_reading}
use Rattle.loading.specs.declared.Reading.{Reading}
use Rattle.loading.specs.declared.Reading.TheVariants.{Lesser, StraightLine}

-- the bytes of "lesser" and of "straight-line"
abbrev pub name_of : Reading → List ℕ
name_of Lesser = 108 ∷ 101 ∷ 115 ∷ 115 ∷ 101 ∷ 114 ∷ []
name_of StraightLine = 115 ∷ 116 ∷ 114 ∷ 97 ∷ 105 ∷ 103 ∷ 104 ∷ 116 ∷ 45 ∷ 108 ∷ 105 ∷ 110 ∷ 101 ∷ []

-- what a word names: the reading of that name, or none
abbrev pub Names : List ℕ → Option Reading → Type 0
Names word (Some reading) = word ≡ name_of reading
Names word None = (reading : Reading) → word ≡ name_of reading → ⊥

-- so many words, the program's own name the first, and the one after it: without one the default is asked for, and by more than one none
pub record Asks (words : ℕ) (word : List ℕ) (answer : Option Reading) : Type 0 where
  pub without : words < 2 → answer ≡ Some default_reading
  pub by_name : words ≡ 2 → Names word answer
  pub beyond : 2 < words → answer ≡ None

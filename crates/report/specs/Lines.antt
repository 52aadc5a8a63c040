-- The lines of the sheet. "R: the seven row numbers. C: weight, draft, KM, LCG, vertical moment, free surface, GM, transverse moment, the outcome's word,
-- 1 for a pass and 0 otherwise. One space stands between fields, and a line feed ends each line. A refusal prints "E", number, place."
use Rattle.std.specs.Prelude.{ℕ, Bool, true, false, List, [], ◌∷◌, ◌++◌, map, ℤ, pos}
use Rattle.hydrostatics.specs.Row.{numbers_of}
use Rattle.hydrostatics.specs.declared.Row.{Row}
use Rattle.loading.specs.declared.Condition.{Condition}
use Rattle.loading.specs.declared.Heel.{Heel}
use Rattle.loading.specs.declared.Heel.TheVariants.{Unstable, Upright, Heeled, Beyond}
use Rattle.numerals.specs.Printed.{printed}
use Rattle.offsets.specs.Tokens.{space, line_feed}

-- a field after another
abbrev pub field : ℤ → List ℕ
field v = space ∷ printed v

unfoldable pub fields : List ℤ → List ℕ
fields [] = []
fields (v ∷ rest) = field v ++ fields rest

-- the bytes of the letters R, C and E
abbrev pub row_letter : ℕ
row_letter = 82

abbrev pub condition_letter : ℕ
condition_letter = 67

abbrev pub refusal_letter : ℕ
refusal_letter = 69

-- a line by its letter and its fields
abbrev pub line_of : ℕ → List ℕ → List ℕ
line_of letter said = letter ∷ (said ++ line_feed ∷ [])

unfoldable pub row_line : Row → List ℕ
row_line row = line_of row_letter (fields (map pos (numbers_of row)))

-- the outcome's word: unstable, upright, heeled, beyond
unfoldable pub word : Heel → List ℕ
word Unstable = 117 ∷ 110 ∷ 115 ∷ 116 ∷ 97 ∷ 98 ∷ 108 ∷ 101 ∷ []
word Upright = 117 ∷ 112 ∷ 114 ∷ 105 ∷ 103 ∷ 104 ∷ 116 ∷ []
word (Heeled tangent) = 104 ∷ 101 ∷ 101 ∷ 108 ∷ 101 ∷ 100 ∷ []
word Beyond = 98 ∷ 101 ∷ 121 ∷ 111 ∷ 110 ∷ 100 ∷ []

abbrev pub mark : Bool → ℕ
mark true = 1
mark false = 0

unfoldable pub condition_line : Condition → List ℕ
condition_line c =
    line_of condition_letter
    (fields (pos c.weight ∷ pos c.draft ∷ pos c.km ∷ pos c.lcg ∷ pos c.vertical_moment ∷ pos c.free_surface ∷ c.gm ∷ c.transverse_moment ∷ [])
    ++ space ∷ word c.heel
    ++ field (pos (mark c.passes)))

unfoldable pub refusal_line : ℕ → ℕ → List ℕ
refusal_line number place = line_of refusal_letter (fields (pos number ∷ pos place ∷ []))

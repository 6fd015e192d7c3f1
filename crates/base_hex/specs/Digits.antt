-- Hexadecimal digits, read in either case and written in upper case.
use Rattle.std.specs.Prelude.{ℕ, ◌+◌, ◌-◌, ◌/◌, ◌%◌, List, [], ◌∷◌, ltb}
use Rattle.base_choices.specs.Choices.{pick}

-- "of either case": the value of a digit, 16 for any other byte
unfoldable pub digit_of : ℕ → ℕ
digit_of b =
    pick (ltb b 48) 16
    (pick (ltb b 58) (b - 48)
    (pick (ltb b 65) 16
    (pick (ltb b 71) (b - 55)
    (pick (ltb b 97) 16
    (pick (ltb b 103) (b - 87)
    16)))))

-- "upper-case hexadecimal": a digit, and bytes, two digits each
abbrev pub glyph_of : ℕ → ℕ
glyph_of d = pick (ltb d 10) (48 + d) (55 + d)

unfoldable pub hex_text : List ℕ → List ℕ
hex_text [] = []
hex_text (b ∷ bs) = glyph_of (b / 16) ∷ glyph_of (b % 16) ∷ hex_text bs

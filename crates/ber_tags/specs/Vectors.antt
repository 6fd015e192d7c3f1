-- Worked examples, by computation: what each case of the answer says, with document 01's number.
use Rattle.std.specs.Prelude.{ℕ, ◌≡◌, refl, List, [], ◌∷◌, true, false}
use Rattle.ber_integers.specs.Digits.{horner}
use Rattle.ber_integers.specs.Readings.{Reading, done, refused}
use Rattle.ber_tags.specs.declared.Length.TheVariants.{Definite, Indefinite}
use Rattle.ber_tags.specs.Tag.{stop, cut, long_number, tag_number, sized, length_at, head_at, Tagged, head_says}

-- a tag at the message's begin, in a container that ends at `bound`; 99 is past every message here
abbrev said : List ℕ → ℕ → Reading Tagged
said s bound = head_says (head_at s 0 bound)

-- an integer's; a sequence of indefinite length; context 2 in long form, with a length of two octets
pub tags-0 : said (0x02 ∷ 0x01 ∷ 0x05 ∷ []) 99
    ∷ said (0x30 ∷ 0x80 ∷ []) 99
    ∷ said (0x9F ∷ 0x02 ∷ 0x82 ∷ 0x00 ∷ 0x03 ∷ []) 99
    ∷ []
    ≡ done (record { class = 0; constructed = false; number = 2; length = Definite 1; next = 2 })
    ∷ done (record { class = 0; constructed = true; number = 16; length = Indefinite; next = 2 })
    ∷ done (record { class = 2; constructed = false; number = 2; length = Definite 3; next = 5 })
    ∷ []
unfolding head_at tag_number long_number length_at sized stop cut horner
tags-0 = refl

-- a long tag that starts with 80; one of five octets; a primitive of indefinite length; a length of five octets; one that passes the container's end
pub tags-30 : said (0x1F ∷ 0x80 ∷ 0x01 ∷ 0x00 ∷ []) 99
    ∷ said (0x1F ∷ 0x81 ∷ 0x81 ∷ 0x81 ∷ 0x81 ∷ 0x01 ∷ 0x00 ∷ []) 99
    ∷ said (0x02 ∷ 0x80 ∷ []) 99
    ∷ said (0x02 ∷ 0x85 ∷ 0x00 ∷ 0x00 ∷ 0x00 ∷ 0x00 ∷ 0x00 ∷ []) 99
    ∷ said (0x02 ∷ 0x02 ∷ 0x05 ∷ 0x05 ∷ []) 3
    ∷ []
    ≡ refused 30 0 ∷ refused 30 0 ∷ refused 30 0 ∷ refused 30 0 ∷ refused 30 0 ∷ []
unfolding head_at tag_number long_number length_at sized stop cut horner
tags-30 = refl

-- cut off by the message's end: at its length; by the container's end, also where the message ends too: at the tag
pub cut-30 : said [] 99 ∷ said (0x02 ∷ []) 99 ∷ said (0x02 ∷ 0x82 ∷ 0x00 ∷ []) 99 ∷ said (0x02 ∷ []) 1 ∷ said (0x02 ∷ 0x01 ∷ 0x05 ∷ []) 1 ∷ []
    ≡ refused 30 0 ∷ refused 30 1 ∷ refused 30 3 ∷ refused 30 0 ∷ refused 30 0 ∷ []
unfolding head_at tag_number long_number length_at sized stop cut horner
cut-30 = refl

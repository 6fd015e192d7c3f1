-- Worked examples, by computation: what each case of each answer says, with document 01's numbers. The tag stands at 7.
use Rattle.std.specs.Prelude.{ℕ, ◌≡◌, refl, List, [], ◌∷◌, map, length, ℤ, pos, negsuc, Some, None}
use Rattle.ber_integers.specs.Digits.{horner, digits, Put, wrote, put}
use Rattle.ber_integers.specs.Integer.{signed, nine_free, twos, integer, unsigned_at, signed_at, integer_at, size_by, octets, shortest}
use Rattle.ber_integers.specs.Readings.{Reading, done, refused, integer_says, natural_says}

-- 1, -1, 127, 128, 255, -128, -32,768: P1 to P7
abbrev pub written : List (List ℕ)
written =
    (0x01 ∷ []) ∷ (0xFF ∷ []) ∷ (0x7F ∷ []) ∷ (0x00 ∷ 0x80 ∷ []) ∷ (0x00 ∷ 0xFF ∷ []) ∷ (0x80 ∷ []) ∷ (0x80 ∷ 0x00 ∷ []) ∷ []

abbrev pub integers : List ℤ
integers = pos 1 ∷ negsuc 0 ∷ pos 127 ∷ pos 128 ∷ pos 255 ∷ negsuc 127 ∷ negsuc 32767 ∷ []

abbrev said : List ℕ → Reading ℤ
said bs = integer_says (integer_at bs 0 (length bs)) 7

pub read : map said written ≡ map done integers
unfolding integer_at integer nine_free twos signed horner
read = refl

pub wrote-fewest : map shortest integers ≡ written
unfolding shortest octets size_by digits
wrote-fewest = refl

-- no octet; nine octets; nine bits that are all 0, and all 1
abbrev pub bad : List (List ℕ)
bad = [] ∷ (1 ∷ 2 ∷ 3 ∷ 4 ∷ 5 ∷ 6 ∷ 7 ∷ 8 ∷ 9 ∷ []) ∷ (0x00 ∷ 0x7F ∷ []) ∷ (0xFF ∷ 0x80 ∷ []) ∷ []

pub refused-30 : map said bad ≡ refused 30 7 ∷ refused 30 7 ∷ refused 30 7 ∷ refused 30 7 ∷ []
unfolding integer_at integer nine_free twos signed horner
refused-30 = refl

-- octets that the message does not hold
pub held-30 : integer_says (integer_at (1 ∷ 2 ∷ []) 1 2) 7 ≡ refused 30 7
unfolding integer_at
held-30 = refl

-- without the rule on nine bits
pub signed-read : integer_says (signed_at (0xFF ∷ 0x80 ∷ []) 0 2) 7 ≡ done (negsuc 127)
unfolding signed_at twos signed horner
signed-read = refl

pub signed-30 : integer_says (signed_at [] 0 0) 7 ≡ refused 30 7
unfolding signed_at twos
signed-30 = refl

-- 258, and 0 in no octet; nine octets, and octets that the message does not hold
abbrev natural : List ℕ → ℕ → Reading ℕ
natural s n = natural_says (unsigned_at s 0 n) 7

pub natural-read : natural (1 ∷ 2 ∷ []) 2 ∷ natural [] 0 ∷ [] ≡ done 258 ∷ done 0 ∷ []
unfolding unsigned_at horner
natural-read = refl

pub natural-30 : natural (1 ∷ 2 ∷ 3 ∷ 4 ∷ 5 ∷ 6 ∷ 7 ∷ 8 ∷ 9 ∷ []) 9 ∷ natural (1 ∷ 2 ∷ []) 3 ∷ [] ≡ refused 30 7 ∷ refused 30 7 ∷ []
unfolding unsigned_at
natural-30 = refl

-- a writer's answers, and what it leaves: 0 and the octets in their place; 46 and the output as it was
pub numbers : map wrote (Some 2 ∷ None ∷ []) ≡ 0 ∷ 46 ∷ []
numbers = refl

pub put-0 : put (9 ∷ 9 ∷ 9 ∷ []) 1 (5 ∷ []) ≡ record { answer = Some 2; number = 0; out = 9 ∷ 5 ∷ 9 ∷ [] }
unfolding put
put-0 = refl

pub put-46 : put (9 ∷ 9 ∷ 9 ∷ []) 2 (5 ∷ 6 ∷ []) ≡ record { answer = None; number = 46; out = 9 ∷ 9 ∷ 9 ∷ [] }
unfolding put
put-46 = refl

-- Worked examples, by computation: what each case of the answers says, with document 01's numbers. The tag stands at 7; a number out of its range is
-- 37 in a path and 34 in sources.
use Rattle.std.specs.Prelude.{ℕ, ◌≡◌, refl, List, [], ◌∷◌, map, length}
use Rattle.ber_integers.specs.Readings.{Reading, done, refused}
use Rattle.ber_identifiers.specs.Identifier.{arc_is, arc_from, arc_at, arcs_from, oid_at, arc_says, oid_says}

-- 1; 300; 2,147,483,647, and another number after each
abbrev pub good : List (List ℕ)
good = (0x01 ∷ 0x09 ∷ []) ∷ (0x82 ∷ 0x2C ∷ 0x09 ∷ []) ∷ (0x87 ∷ 0xFF ∷ 0xFF ∷ 0xFF ∷ 0x7F ∷ 0x09 ∷ []) ∷ []

-- 2,147,483,648, in range nowhere
abbrev pub over : List ℕ
over = 0x88 ∷ 0x80 ∷ 0x80 ∷ 0x80 ∷ 0x00 ∷ []

-- none; a first octet 80; a number without end
abbrev pub bad : List (List ℕ)
bad = (0x80 ∷ 0x01 ∷ []) ∷ (0x81 ∷ 0x82 ∷ []) ∷ []

abbrev arc : ℕ → List ℕ → Reading (ℕ × ℕ)
arc range s = arc_says (arc_at s 0 (length s)) range 7

abbrev oid : ℕ → List ℕ → Reading ℕ
oid range s = oid_says (oid_at s 0 (length s)) range 7

pub arcs-0 : map (arc 37) good ≡ done (1, 1) ∷ done (300, 2) ∷ done (2147483647, 5) ∷ []
unfolding arc_at arc_from arc_is
arcs-0 = refl

pub arcs-range : arc 37 over ∷ arc 34 over ∷ [] ≡ refused 37 7 ∷ refused 34 7 ∷ []
unfolding arc_at arc_from arc_is
arcs-range = refl

pub arcs-30 : map (arc 37) ([] ∷ bad) ≡ refused 30 7 ∷ refused 30 7 ∷ refused 30 7 ∷ []
unfolding arc_at arc_from arc_is
arcs-30 = refl

pub oids-0 : map (oid 37) ([] ∷ good) ≡ done 0 ∷ done 2 ∷ done 2 ∷ done 2 ∷ []
unfolding oid_at arcs_from arc_at arc_from arc_is
oids-0 = refl

pub oids-range : oid 37 over ∷ oid 34 over ∷ [] ≡ refused 37 7 ∷ refused 34 7 ∷ []
unfolding oid_at arcs_from arc_at arc_from arc_is
oids-range = refl

-- also after a number out of its range; and octets that the message does not hold
pub oids-30 : map (oid 37) bad ≡ refused 30 7 ∷ refused 30 7 ∷ []
unfolding oid_at arcs_from arc_at arc_from arc_is
oids-30 = refl

pub later-30 : oid 37 (0x88 ∷ 0x80 ∷ 0x80 ∷ 0x80 ∷ 0x00 ∷ 0x80 ∷ 0x01 ∷ []) ∷ oid_says (oid_at (1 ∷ []) 0 2) 37 7 ∷ [] ≡ refused 30 7 ∷ refused 30 7 ∷ []
unfolding oid_at arcs_from arc_at arc_from arc_is
later-30 = refl

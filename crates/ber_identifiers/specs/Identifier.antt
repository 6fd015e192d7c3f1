-- Relative identifiers (document 01, Values; X.690 8.20): "each number in fewest octets, at most 2,147,483,647".
-- Bad octets (30) are told from a number out of its range, and come first wherever they stand.
-- For other crates: `arcs s at n` are the numbers, `oid_at s at n` is what `read_oid` answers, `arc_at s p end` what `read_number` answers, and
-- `put_oid out at ns` what `write_oid` answers and leaves.
use Rattle.std.specs.Prelude.{ℕ, zero, suc, ◌+◌, ◌-◌, ◌*◌, ◌%◌, ◌≤◌, ◌<◌, List, [], ◌∷◌, ◌++◌, Bool, true, false, length, take, drop, get_or, leb, ltb, eqb}
use Rattle.base_choices.specs.Choices.{pick}
use Rattle.ber_integers.specs.Digits.{Put, put, unchanged}
use Rattle.ber_integers.specs.Readings.{Reading, done, refused}
use Rattle.ber_tags.specs.Write.{septets}
use Rattle.ber_identifiers.specs.declared.Arc.{Arc}
use Rattle.ber_identifiers.specs.declared.Arc.TheVariants.{Number, Range as Over, Refused as NoArc}
use Rattle.ber_identifiers.specs.declared.Oid.{Oid}
use Rattle.ber_identifiers.specs.declared.Oid.TheVariants.{Numbers, Range, Refused}

-- "at most 2,147,483,647"
unfoldable pub arc_is : ℕ → ℕ → Arc
arc_is n next = pick (ltb 2147483647 n) (Over next) (Number n next)

-- a number's octets from p on; acc is the number so far; the last octet must end it
unfoldable pub arc_from : ℕ → ℕ → List ℕ → Arc
arc_from acc p [] = NoArc
arc_from acc p (b ∷ bs) =
    let more : Arc = arc_from (acc * 128 + b % 128) (p + 1) bs in
    pick (ltb b 128) (arc_is (acc * 128 + b) (p + 1)) more

-- the number at p, in octets that end at `end`; "fewest octets": a first octet 80 would add nothing
unfoldable pub arc_at : List ℕ → ℕ → ℕ → Arc
arc_at s p end =
    pick (leb end (length s))
    (pick (ltb p end) (pick (eqb (get_or s p 0) 128) NoArc (arc_from 0 p (take (end - p) (drop p s)))) NoArc)
    NoArc

-- the numbers of an identifier: bad octets, a number out of range, or all of them
pub data Arcs : Type 0 where
  bad : Arcs
  over : Arcs
  numbers : List ℕ → Arcs

abbrev pub push : ℕ → Arcs → Arcs
push n bad = bad
push n over = over
push n (numbers ns) = numbers (n ∷ ns)

abbrev pub pass : Arcs → Arcs
pass bad = bad
pass over = over
pass (numbers ns) = over

-- after a number: the rest
abbrev pub and_then : Arc → (ℕ → Arcs) → Arcs
and_then (Number n next) rest = push n (rest next)
and_then (Over next) rest = pass (rest next)
and_then NoArc rest = bad

-- the numbers from p up to end; fuel of at least the octets left
unfoldable pub arcs_from : List ℕ → ℕ → ℕ → ℕ → Arcs
arcs_from s zero p end = numbers []
arcs_from s (suc f) p end =
    let r : Arcs = and_then (arc_at s p end) (λ next. arcs_from s f next end) in
    pick (ltb p end) r (numbers [])

abbrev pub judged : Arcs → Oid
judged bad = Refused
judged over = Range
judged (numbers ns) = Numbers (length ns)

-- the identifier of the n octets at a position
abbrev pub arcs : List ℕ → ℕ → ℕ → Arcs
arcs s at n = arcs_from s n at (at + n)

unfoldable pub oid_at : List ℕ → ℕ → ℕ → Oid
oid_at s at n = pick (leb (at + n) (length s)) (judged (arcs s at n)) Refused

-- what is written: each number in its fewest octets
unfoldable pub oid_octets : List ℕ → List ℕ
oid_octets [] = []
oid_octets (n ∷ ns) = septets n ++ oid_octets ns

abbrev pub in_range : List ℕ → Bool
in_range [] = true
in_range (n ∷ ns) = pick (leb n 2147483647) (in_range ns) false

-- 46 for a number out of range
unfoldable pub put_oid : List ℕ → ℕ → List ℕ → Put
put_oid out at ns = pick (in_range ns) (put out at (oid_octets ns)) (unchanged out)

-- For each case of the answers what it says, at the tag: 30 for bad octets; a number out of its range has the number `range`, 37 in a path and 34 in sources.
-- A number comes with the position after it; of an identifier the count of its numbers is told.
abbrev pub arc_says : Arc → ℕ → ℕ → Reading (ℕ × ℕ)
arc_says (Number n next) range at = done (n, next)
arc_says (Over next) range at = refused range at
arc_says NoArc range at = refused 30 at

abbrev pub oid_says : Oid → ℕ → ℕ → Reading ℕ
oid_says (Numbers n) range at = done n
oid_says Range range at = refused range at
oid_says Refused range at = refused 30 at

-- with which numbers: 0, 30 or `range`
abbrev pub identifier_numbers : ℕ → List ℕ
identifier_numbers range = 0 ∷ 30 ∷ range ∷ []

abbrev pub arc_or : ℕ → Arc → ℕ → ℕ → Reading (ℕ × ℕ)
arc_or number (Number n next) range at = done (n, next)
arc_or number (Over next) range at = refused range at
arc_or number NoArc range at = refused number at

abbrev pub oid_or : ℕ → Oid → ℕ → ℕ → Reading ℕ
oid_or number (Numbers n) range at = done n
oid_or number Range range at = refused range at
oid_or number Refused range at = refused number at

-- an answer goes on, and stays within
abbrev pub ArcWithin : ℕ → ℕ → Arc → Type 0
ArcWithin p end (Number n next) = (p < next) × (next ≤ end)
ArcWithin p end (Over next) = (p < next) × (next ≤ end)
ArcWithin p end NoArc = Unit {0}

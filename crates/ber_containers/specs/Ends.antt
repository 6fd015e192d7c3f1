-- What stands at a position of an open container, and what surrounds the one value of an outer tag (document 01, "Values").
-- A refusal is its number and its place (request 09).
use Rattle.std.specs.Prelude.{ℕ, ◌+◌, List, Bool, true, false, length, get_or, leb, eqb, Result, Ok, Err}
use Rattle.base_choices.specs.Choices.{pick, unless}
use Rattle.ber_tags.specs.declared.Length.{Length}
use Rattle.ber_tags.specs.declared.Length.TheVariants.{Definite, Indefinite}
use Rattle.ber_tags.specs.declared.Head.{Head}
use Rattle.ber_tags.specs.declared.Head.TheVariants.{Tag as HeadTag, Refused as NoHead}
use Rattle.ber_tags.specs.Tag.{head_at}
use Rattle.ber_containers.specs.declared.No.{No}
use Rattle.ber_containers.specs.declared.Open.{Open}
use Rattle.ber_containers.specs.declared.Tag.{Tag}
use Rattle.ber_containers.specs.declared.Stands.{Stands}
use Rattle.ber_containers.specs.declared.Stands.TheVariants.{Ended, Here, Refused}

abbrev pub no : ℕ → ℕ → No
no number place = (number, place)

-- "A definite length never passes its container's end": one of indefinite length ends, at the latest, where the container around it ends
abbrev pub open_of : ℕ → ℕ → Length → Open
open_of bound start (Definite n) = record { definite = 1; end = start + n }
open_of bound start Indefinite = record { definite = 0; end = bound }

abbrev pub bit : Bool → ℕ
bit true = 1
bit false = 0

abbrev pub of_head : ℕ → Head → Stands
of_head bound (HeadTag c b n l start) =
    Here (record { class = c; constructed = bit b; number = n; start = start; inner = open_of bound start l })
of_head bound (NoHead place) = Refused (no 30 place)

unfoldable pub zero_at : List ℕ → ℕ → Bool
zero_at s p = pick (leb (length s) p) false (eqb (get_or s p 0) 0)

-- a 00 at p: "a tag 00 that ends nothing" is 30, known by its first octet; 00 00 ends a container of indefinite length
unfoldable pub closing_at : List ℕ → ℕ → Open → Stands
closing_at s p o =
    pick (eqb o.definite 1) (Refused (no 30 p))
    (pick (eqb (p + 1) o.end) (Refused (no 30 p))
    (pick (leb (length s) (p + 1)) (Refused (no 30 (length s)))
    (pick (eqb (get_or s (p + 1) 0) 0) (Ended (p + 2)) (Refused (no 30 p)))))

-- what stands at p in the open container o: its end and the place after it, or a tag; a closing 00 00 that is missing is 30 at the end
unfoldable pub standing_at : List ℕ → ℕ → Open → Stands
standing_at s p o =
    pick (eqb p o.end) (pick (eqb o.definite 1) (Ended p) (Refused (no 30 p)))
    (pick (zero_at s p) (closing_at s p o) (of_head o.end (head_at s p o.end)))

-- "At most 64 containers, outer tags among them, open at once": a constructed tag where none is allowed any more
unfoldable pub deep : ℕ → ℕ → Bool
deep constructed k = pick (eqb constructed 1) (eqb k 0) false

-- a tag at p, with k containers still allowed
abbrev pub counted : ℕ → ℕ → Stands → Stands
counted p k (Ended n) = Ended n
counted p k (Here t) = pick (deep t.constructed k) (Refused (no 32 p)) (Here t)
counted p k (Refused n) = Refused n

unfoldable pub enter_at : List ℕ → ℕ → Open → ℕ → Stands
enter_at s p o k = counted p k (standing_at s p o)

-- "An outer tag around one value .. has the same form, definite or indefinite, as the value inside": the value of the outer tag c is
-- not missing (33), of the same form (31), not too deep (32)
abbrev pub first_of : ℕ → Open → ℕ → Stands → Result Tag No
first_of p c k (Ended n) = Err (no 33 p)
first_of p c k (Here t) =
    unless (eqb t.inner.definite c.definite) (Err (no 31 p))
    (pick (deep t.constructed k) (Err (no 32 p)) (Ok t))
first_of p c k (Refused n) = Err n

unfoldable pub first_at : List ℕ → ℕ → Open → ℕ → Result Tag No
first_at s p c k = first_of p c k (standing_at s p c)

-- "one value": nothing stands after it. The place after the outer tag's end
abbrev pub last_of : ℕ → ℕ → Stands → Result ℕ No
last_of p k (Ended n) = Ok n
last_of p k (Here t) = Err (no (pick (deep t.constructed k) 32 33) p)
last_of p k (Refused n) = Err n

unfoldable pub last_at : List ℕ → ℕ → Open → ℕ → Result ℕ No
last_at s p c k = last_of p k (standing_at s p c)

unfoldable pub is_tag : Tag → ℕ → ℕ → ℕ → Bool
is_tag t class constructed number =
    pick (eqb t.class class) (pick (eqb t.number number) (eqb t.constructed constructed) false) false

-- Identifier octets and length octets (document 01, Values; X.690 8.1.2 and 8.1.3), with the place of a refusal (30; request 09).
-- For other crates: `head_at s at bound` is what `read_tag` answers.
use Rattle.std.specs.Prelude.{ℕ, zero, suc, ◌+◌, ◌-◌, ◌*◌, ◌/◌, ◌%◌, ◌≤◌, ◌<◌, List, Bool, length, take, drop, get_or, leb, ltb, eqb, Result, Ok, Err}
use Rattle.base_choices.specs.Choices.{pick}
use Rattle.ber_integers.specs.Digits.{natural}
use Rattle.ber_integers.specs.Readings.{Reading, done, refused}
use Rattle.ber_tags.specs.declared.Length.{Length}
use Rattle.ber_tags.specs.declared.Length.TheVariants.{Definite, Indefinite}
use Rattle.ber_tags.specs.declared.Head.{Head}
use Rattle.ber_tags.specs.declared.Head.TheVariants.{Tag, Refused}

-- A tag stands in the message s at `at`, in a container that ends at `bound`; at the outermost level the bound is 2^64 - 1, which nothing passes.
-- Its own octets end before the container's end and the message's.
unfoldable pub stop : List ℕ → ℕ → ℕ
stop s bound = pick (leb bound (length s)) bound (length s)

-- The place where they are cut off: "the first byte of the tag .. whose own octets a container's end cuts off (even at the
-- message's end)", "or the message length if bytes run out first".
unfoldable pub cut : List ℕ → ℕ → ℕ → ℕ
cut s at bound = pick (leb bound (length s)) at (length s)

-- "Tag numbers up to 268,435,455": at most four octets of seven bits, from p on, k of them still allowed.
unfoldable pub long_number : List ℕ → ℕ → ℕ → ℕ → ℕ → ℕ → Result (ℕ × ℕ) ℕ
long_number s at bound zero acc p = Err at
long_number s at bound (suc k) acc p =
    let b : ℕ = get_or s p 0 in
    let more : Result (ℕ × ℕ) ℕ = long_number s at bound k (acc * 128 + b % 128) (p + 1) in
    pick (leb (stop s bound) p) (Err (cut s at bound)) (pick (ltb b 128) (Ok (acc * 128 + b, p + 1)) more)

-- "small ones in long form too"; "A long tag starting with 80 is refused."
unfoldable pub tag_number : List ℕ → ℕ → ℕ → Result (ℕ × ℕ) ℕ
tag_number s at bound =
    let b : ℕ = get_or s at 0 in
    pick (leb (stop s bound) at) (Err (cut s at bound))
    (pick (ltb (b % 32) 31) (Ok (b % 32, at + 1))
    (pick (leb (stop s bound) (at + 1)) (Err (cut s at bound))
    (pick (eqb (get_or s (at + 1) 0) 128) (Err at) (long_number s at bound 4 0 (at + 1)))))

-- "A definite length never passes its container's end."
unfoldable pub sized : ℕ → ℕ → ℕ → ℕ → Result (Length × ℕ) ℕ
sized at bound len next = pick (ltb bound (next + len)) (Err at) (Ok (Definite len, next))

-- "Lengths: short, long of 1 to 4 octets, indefinite for containers."
unfoldable pub length_at : List ℕ → ℕ → ℕ → Bool → ℕ → Result (Length × ℕ) ℕ
length_at s at bound constructed p =
    let b : ℕ = get_or s p 0 in
    pick (leb (stop s bound) p) (Err (cut s at bound))
    (pick (ltb b 128) (sized at bound b (p + 1))
    (pick (eqb b 128) (pick constructed (Ok (Indefinite, p + 1)) (Err at))
    (pick (ltb 132 b) (Err at)
    (pick (ltb (stop s bound) (p + 1 + (b - 128))) (Err (cut s at bound))
    (sized at bound (natural (take (b - 128) (drop (p + 1) s))) (p + 1 + (b - 128)))))))

-- two bits of class, the constructed bit, five bits of number
abbrev pub head_of : ℕ → ℕ → Result (Length × ℕ) ℕ → Head
head_of b number (Ok (length, next)) = Tag (b / 64) (leb 32 (b % 64)) number length next
head_of b number (Err place) = Refused place

abbrev pub after_number : List ℕ → ℕ → ℕ → Result (ℕ × ℕ) ℕ → Head
after_number s at bound (Ok (n, p)) = head_of (get_or s at 0) n (length_at s at bound (leb 32 (get_or s at 0 % 64)) p)
after_number s at bound (Err place) = Refused place

-- the tag at `at`, with its length
unfoldable pub head_at : List ℕ → ℕ → ℕ → Head
head_at s at bound = after_number s at bound (tag_number s at bound)

-- What is read of a tag: class, constructed bit, number and length, and the position of what follows.
pub record Tagged : Type 0 where
  pub class : ℕ
  pub constructed : Bool
  pub number : ℕ
  pub length : Length
  pub next : ℕ

-- for each case of the answer what it says: "30 BER: bad tag, length", at its place
abbrev pub head_says : Head → Reading Tagged
head_says (Tag class constructed number length next) =
    done (record { class = class; constructed = constructed; number = number; length = length; next = next })
head_says (Refused place) = refused 30 place

abbrev pub head_or : ℕ → Head → Reading Tagged
head_or number (Tag class constructed n length next) =
    done (record { class = class; constructed = constructed; number = n; length = length; next = next })
head_or number (Refused place) = refused number place

-- a number that was read ends within the message
abbrev pub NumberWithin : List ℕ → ℕ → Result (ℕ × ℕ) ℕ → Type 0
NumberWithin s at (Ok (n, p)) = (at < length s) × (p ≤ length s)
NumberWithin s at (Err place) = Unit {0}

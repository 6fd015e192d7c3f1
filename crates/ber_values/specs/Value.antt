-- Values (document 01, Values): "A value is an integer, a real, a text, a boolean or octets." Each is a universal primitive tag
-- (X.680: boolean 1, integer 2, octets 4, real 9, text 12) and its content.
-- For other crates: `value_at s at bound` is what `read_value` answers, `content_at s at kind start len` what `read_content` answers.
use Rattle.std.specs.Prelude.{ℕ, ◌+◌, List, [], ◌∷◌, Bool, true, not, length, take, drop, leb, eqb, ℤ, Float, Option, Some, None}
use Rattle.base_choices.specs.Choices.{pick}
use Rattle.ber_integers.specs.Integer.{integer_at}
use Rattle.ber_integers.specs.Readings.{Reading, done, refused, integer_says}
use Rattle.ber_reals.specs.Real.{real_at, real_says}
use Rattle.ber_tags.specs.declared.Length.{Length}
use Rattle.ber_tags.specs.declared.Length.TheVariants.{Definite, Indefinite}
use Rattle.ber_tags.specs.declared.Head.{Head}
use Rattle.ber_tags.specs.Tag.{Tagged, head_says, head_at}
use Rattle.ber_values.specs.declared.Value.{Value}
use Rattle.ber_values.specs.declared.Value.TheVariants.{Int, Real, Text, Bool as Truth, Octets}
use Rattle.ber_values.specs.declared.Answer.{Answer}
use Rattle.ber_values.specs.declared.Answer.TheVariants.{Found, Other, Refused}

-- "Booleans: one octet, non-zero is true"
unfoldable pub boolean : List ℕ → Option Bool
boolean [] = None
boolean (b ∷ []) = Some (not (eqb b 0))
boolean (b ∷ (c ∷ bs)) = None

unfoldable pub bool_at : List ℕ → ℕ → ℕ → Option Bool
bool_at s at n = pick (leb (at + n) (length s)) (boolean (take n (drop at s))) None

-- for each case of the answer what it says, at the tag: "30 BER: bad .. value octets"
abbrev pub flag_says : Option Bool → ℕ → Reading Bool
flag_says (Some b) at = done b
flag_says None at = refused 30 at

abbrev pub flag_or : ℕ → Option Bool → ℕ → Reading Bool
flag_or number (Some b) at = done b
flag_or number None at = refused number at

-- what was read, as a value, with the position after it; or the number of the refusal and its place
abbrev pub answering : {A : Type 0} → (A → Value) → ℕ → Reading A → Answer
answering value next (done x) = Found (value x) next
answering value next (refused number place) = Refused number place

abbrev pub on_flag : ℕ → ℕ → Option Bool → Answer
on_flag at next f = answering Truth next (flag_says f at)

abbrev pub on_number : ℕ → ℕ → Option ℤ → Answer
on_number at next n = answering Int next (integer_says n at)

abbrev pub on_real : ℕ → ℕ → Option Float → Answer
on_real at next x = answering Real next (real_says x at)

unfoldable pub is_listed : ℕ → Bool
is_listed kind = pick (eqb kind 1) true (pick (eqb kind 2) true (pick (eqb kind 4) true (pick (eqb kind 9) true (eqb kind 12))))

-- the value of a listed kind, whose tag stands at `at` and whose len content octets stand at start
unfoldable pub kind_at : List ℕ → ℕ → ℕ → ℕ → ℕ → Answer
kind_at s at kind start len =
    pick (eqb kind 1) (on_flag at (start + len) (bool_at s start len))
    (pick (eqb kind 2) (on_number at (start + len) (integer_at s start len))
    (pick (eqb kind 4) (Found (Octets start len) (start + len))
    (pick (eqb kind 9) (on_real at (start + len) (real_at s start len)) (Found (Text start len) (start + len)))))

-- "a value is checked once whole"; "the message length if bytes run out first" (request 09)
unfoldable pub content_at : List ℕ → ℕ → ℕ → ℕ → ℕ → Answer
content_at s at kind start len =
    pick (is_listed kind) (pick (leb (start + len) (length s)) (kind_at s at kind start len) (Refused 30 (length s))) Other

abbrev pub on_length : List ℕ → ℕ → ℕ → ℕ → Length → Answer
on_length s at kind next (Definite len) = content_at s at kind next len
on_length s at kind next Indefinite = Other

-- universal and primitive, else it is no value's
abbrev pub on_tag : List ℕ → ℕ → Reading Tagged → Answer
on_tag s at (done t) = pick (eqb t.class 0) (pick t.constructed Other (on_length s at t.number t.next t.length)) Other
on_tag s at (refused number place) = Refused number place

abbrev pub on_head : List ℕ → ℕ → Head → Answer
on_head s at h = on_tag s at (head_says h)

-- the value at `at`, in a container that ends at `bound`
unfoldable pub value_at : List ℕ → ℕ → ℕ → Answer
value_at s at bound = on_head s at (head_at s at bound)

-- For each case of the answer what it says: the value and the position after it; for a tag that is none of the five "33 GLOW: a tag unexpected", at the tag (a
-- caller that expects something else there, as a closing 00, looks at the tag first); or the number and the place that it carries.
abbrev pub answer_says : Answer → ℕ → Reading (Value × ℕ)
answer_says (Found value next) at = done (value, next)
answer_says Other at = refused 33 at
answer_says (Refused number place) at = refused number place

-- with which numbers: 0, 30 for bad octets, 33, 35 for a real not accepted
abbrev pub value_numbers : List ℕ
value_numbers = 0 ∷ 30 ∷ 33 ∷ 35 ∷ []

abbrev pub answer_or : ℕ → Answer → ℕ → Reading (Value × ℕ)
answer_or other (Found value next) at = done (value, next)
answer_or other Other at = refused other at
answer_or other (Refused number place) at = refused number place

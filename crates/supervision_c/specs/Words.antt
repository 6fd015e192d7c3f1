-- A supervisor's state as two words, and back: whether it is silent (0), asked (1) or dead (2), and the tick since when, 0 if it is dead. And what is to be
-- done, as a number.
use Rattle.std.specs.Prelude.{ℕ, Bool, false, List, [], ◌∷◌, ltb, eqb, length, get_or}
use Rattle.base_choices.specs.Choices.{pick}
use Rattle.supervision.specs.declared.Answer.{Answer}
use Rattle.supervision.specs.declared.Answer.TheVariants as say
use Rattle.supervision.specs.declared.Link.{Link}
use Rattle.supervision.specs.declared.Link.TheVariants.{Silent, Asked, Dead}

abbrev pub place_word : Link → ℕ
place_word (Silent t) = 0
place_word (Asked t) = 1
place_word Dead = 2

abbrev pub tick_word : Link → ℕ
tick_word (Silent t) = t
tick_word (Asked t) = t
tick_word Dead = 0

abbrev pub words_of : Link → List ℕ
words_of l = place_word l ∷ tick_word l ∷ []

unfoldable pub link_from : ℕ → ℕ → Link
link_from p t = pick (eqb p 0) (Silent t) (pick (eqb p 1) (Asked t) Dead)

abbrev pub link_at : List ℕ → Link
link_at ws = link_from (get_or ws 0 0) (get_or ws 1 0)

-- Words that are a state's: 0 or 1 with a tick of 32 bits, or 2 with none.
unfoldable pub is_pair : ℕ → ℕ → Bool
is_pair p t = pick (ltb p 2) (ltb t 4294967296) (pick (eqb p 2) (eqb t 0) false)

unfoldable pub is_link : List ℕ → Bool
is_link ws = pick (eqb (length ws) 2) (is_pair (get_or ws 0 0) (get_or ws 1 0)) false

-- For each answer its number; 1 is SETUP's.
abbrev pub number_of : Answer → ℕ
number_of say.Nothing = 0
number_of say.Ask = 2
number_of say.Respond = 3
number_of say.Dead = 4

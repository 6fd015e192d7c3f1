-- Words of the answers of ember.h, those that say nothing among them, and the lengths of a turn, by computation.
use Rattle.std.specs.Prelude.{◌≡◌, refl, true, false, [], ◌∷◌, map}
use Rattle.glow_reader.specs.declared.Answer.TheVariants.{Refused, Room}
use Rattle.desk_calls.specs.Calls.{outcome}
use Rattle.turn_rules.specs.Turns.{none, read, desk}
use Rattle.ember_answers.specs.Answers.{desk_call, counted, counted_put, lengths_fit, later_words, answer_put}

-- The desk's call told in an answer of one word; in none and in two, which is 1; and where it was 1.
pub v-desk : map (counted_put (outcome 0 2 (0 ∷ 43 ∷ []) (1 ∷ [])) (8 ∷ 9 ∷ [])) ((7 ∷ []) ∷ [] ∷ (6 ∷ 7 ∷ []) ∷ [])
    ≡ desk_call 0 (0 ∷ 43 ∷ []) (1 ∷ []) (2 ∷ []) ∷ desk_call 1 (8 ∷ 9 ∷ []) (1 ∷ []) [] ∷ desk_call 1 (8 ∷ 9 ∷ []) (1 ∷ []) (6 ∷ 7 ∷ []) ∷ []
unfolding counted_put counted
v-desk = refl

pub v-desk-setup : counted_put (outcome 1 0 (0 ∷ 0 ∷ []) (1 ∷ [])) (8 ∷ 9 ∷ []) (7 ∷ []) ≡ desk_call 1 (8 ∷ 9 ∷ []) (1 ∷ []) (7 ∷ [])
unfolding counted_put counted
v-desk-setup = refl

-- After the session's three words: the tree's number, its place, its count and Root's kind, the desk's number and its count of answers.
pub v-words : map later_words (none ∷ read (Refused 34 12) [] ∷ read (Room 257) [] ∷ desk 3 5 [] (outcome 1 7 [] []) ∷ desk 0 2 [] (outcome 0 1 [] []) ∷ [])
    ≡ (0 ∷ 0 ∷ 0 ∷ 0 ∷ 0 ∷ 0 ∷ [])
    ∷ (34 ∷ 12 ∷ 0 ∷ 0 ∷ 0 ∷ 0 ∷ [])
    ∷ (38 ∷ 0 ∷ 257 ∷ 0 ∷ 0 ∷ 0 ∷ [])
    ∷ (0 ∷ 0 ∷ 5 ∷ 3 ∷ 1 ∷ 7 ∷ [])
    ∷ (0 ∷ 0 ∷ 2 ∷ 0 ∷ 0 ∷ 1 ∷ [])
    ∷ []
v-words = refl

-- A turn's answer of nine words, and answers of eight and of ten, which stay.
pub v-answer : answer_put (9 ∷ 8 ∷ 7 ∷ 6 ∷ 5 ∷ 4 ∷ 3 ∷ 2 ∷ 1 ∷ []) 1 20 300 (desk 3 5 [] (outcome 0 2 [] []))
    ≡ 1 ∷ 20 ∷ 300 ∷ 0 ∷ 0 ∷ 5 ∷ 3 ∷ 0 ∷ 2 ∷ []
unfolding answer_put
v-answer = refl

pub v-other-answers : answer_put (9 ∷ 8 ∷ 7 ∷ 6 ∷ 5 ∷ 4 ∷ 3 ∷ 2 ∷ []) 1 20 300 none ∷ answer_put (9 ∷ 8 ∷ 7 ∷ 6 ∷ 5 ∷ 4 ∷ 3 ∷ 2 ∷ 1 ∷ 0 ∷ []) 1 20 300 none ∷ []
    ≡ (9 ∷ 8 ∷ 7 ∷ 6 ∷ 5 ∷ 4 ∷ 3 ∷ 2 ∷ []) ∷ (9 ∷ 8 ∷ 7 ∷ 6 ∷ 5 ∷ 4 ∷ 3 ∷ 2 ∷ 1 ∷ 0 ∷ []) ∷ []
unfolding answer_put
v-other-answers = refl

-- Each length of a turn at its limit, and one beside it: rows, crosspoints, here those of a desk of 3 by 4, the path's numbers, the answer's words.
pub v-lengths : lengths_fit 256 12 12 16 9 ∷ lengths_fit 0 12 12 1 9 ∷ [] ≡ true ∷ true ∷ []
unfolding lengths_fit
v-lengths = refl

pub v-other-lengths : lengths_fit 257 12 12 16 9 ∷ lengths_fit 256 12 11 16 9 ∷ lengths_fit 256 12 13 16 9 ∷ lengths_fit 256 12 12 0 9
    ∷ lengths_fit 256 12 12 17 9 ∷ lengths_fit 256 12 12 16 8 ∷ lengths_fit 256 12 12 16 10 ∷ [] ≡ false ∷ false ∷ false ∷ false ∷ false ∷ false ∷ false ∷ []
unfolding lengths_fit
v-other-lengths = refl

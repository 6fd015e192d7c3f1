-- THE CLAIM for `ember_turn`: whatever list of its calls is made, refused ones among them, from a fresh session's words, any store of the right length and a
-- desk in any legal state, what they answer and leave tells what the rules tell for the bytes consumed so far, and keeps what they keep. (Calls.antt ties it to
-- the contract of `ember_turn`.)
use Prim.Native.Nat.{ℕ, zero, suc}
use mathlib.Core.Bool.{Bool, true, false, true≢false}
use mathlib.Core.List.{List, [], ◌∷◌, ◌++◌}
use mathlib.Core.Path.{◌≡◌, refl, sym, ap, subst, ◌∙◌}
use borrow.Author.Tests.{eqb-true, eqb-false}
use native.Mathlib.Omega.{arith}
use lib.Dec.{eqb}
use lib.ListN.{length, get_or, take, drop, take-append-drop}
use Rattle.base_choices.specs.Choices.{pick, both}
use Rattle.ber_integers.proofs.Radix.{Below}
use Rattle.framing_session.specs.declared.Event.{Event}
use Rattle.framing_session.specs.declared.Event.TheVariants as ev
use Rattle.framing_session.specs.declared.Fed.{Fed}
use Rattle.framing_session.specs.declared.Session.{Session}
use Rattle.framing_content.specs.Numbers.{store_length}
use Rattle.framing_session.specs.Rules.{begin}
use Rattle.framing_session.specs.Session.{session_of, said_by, legal, Legal, Whole, answers, feeds}
use Rattle.framing.proofs.Calls.{some-call}
use Rattle.framing_words.specs.Words.{words_of, session_at, is_session}
use Rattle.framing_answers.specs.Answers.{accepts}
use Rattle.framing_c.specs.Calls.{Called, called_of as framed, calls}
use Rattle.framing_words.proofs.Laws.{words_back}
use Rattle.glow_rows.specs.Entry.{Rows}
use Rattle.desk_crosspoints.specs.Figures.{size_of}
use Rattle.desk_crosspoints.specs.Crosspoints.{Cells}
use Rattle.desk_crosspoints.specs.Desk.{Desk, desk_legal}
use Rattle.turns.specs.declared.After.{After}
use Rattle.turn_rules.specs.Turns as claim
use Rattle.turn_rules.specs.Turns.{none as no_more}
use Rattle.turns.specs.Whole.{Left, left, later_at, later_of, gave}
use Rattle.framing_session.proofs.Laws.{number-apart, legal-true}
use Rattle.framing.proofs.Sayable.{legal-answered}
use Rattle.turns.proofs.Comes.{said_at, function-turn}
use Rattle.turn_rules.proofs.Claim.{claim as rules-claim}
use Rattle.desk_words.specs.Words.{figures_at, desk_in, is_figures}
use Rattle.ember_answers.specs.Answers.{lengths_fit, next}
use Rattle.ember.specs.Calls.{Turned, turn, turn_of, turn_after, turned, turns}
use Rattle.ember.specs.Rounds.{Round, Rounds, none, round, refused, Tells, AllTell, more, silent, Claimed}
use Rattle.ember.specs.Rounds as rounds

-- ---- what comes after an event, by its number

take_twice : (n : ℕ) (t : List ℕ) → take (length (take n t)) t ≡ take n t
take_twice zero t = refl
take_twice (suc n) [] = refl
take_twice (suc n) (b ∷ t) = ap (λ (bs : List ℕ). b ∷ bs) (take_twice n t)

module _ (d : Desk) (t : List ℕ) (table : Rows) where
  pub next-later : (e : Event) → next (said_by e t).number (take (length (said_by e t).message) t) d table ≡ later_at d e t table
  unfolding next
  next-later ev.More = refl
  next-later ev.Setup = refl
  next-later (ev.Piece b) = refl
  next-later (ev.Message n b) = rw (take_twice n t) refl
  next-later ev.Request = refl
  next-later ev.Response = refl
  next-later (ev.Refused f b) = rw (number-apart f {n = 3} (omega arith)) refl

-- ---- what a call tells, where the session's call within it gave r and left the store t'

module _ (d : Desk) (c : List ℕ) (table : Rows) (r : Fed) (t' : List ℕ) where
  -- what came after the session's call
  abbrev pub comes : Left
  comes = later_at d r.event t' table

  abbrev pub comes-after : After
  comes-after = (said_at d r.event t' table).0

  pub tells-told : Tells (record { offered = c; left = turn_of (framed (answers r t')) comes })
      (record { offered = c; fed = r; store = t'; later = later_of comes-after comes.answers comes.table comes.crosspoints })
  unfolding framed
  tells-told =
      record {
        offered-is = refl;
        store_is = refl;
        number_is = refl;
        later-is = (comes-after, refl);
        words_are = ap (λ (w : Left). (turn_of (framed (answers r t')) w).answer) (said_at d r.event t' table).1;
      }

-- ---- "1 leaves everything as it was"

module _ (ws t c : List ℕ) (table : Rows) (fs path : List ℕ) (cells : Cells) (lent a : List ℕ) where
  pub record AsWas (x : Turned) : Type 0 where
    pub session-is : x.session ≡ ws
    pub store_is : x.store ≡ t
    pub table_is : x.table ≡ table
    pub cells_are : x.crosspoints ≡ cells
    pub answers-are : x.answers ≡ lent
    pub words_are : x.answer ≡ a

  abbrev untouched : Turned
  untouched = record { number = 1; session = ws; store = t; table = table; crosspoints = cells; answers = lent; answer = a }

  all_same : {x : Turned} → untouched ≡ x → AsWas x
  all_same e =
      record {
        session-is = sym (ap (λ (w : Turned). w.session) e);
        store_is = sym (ap (λ (w : Turned). w.store) e);
        table_is = sym (ap (λ (w : Turned). w.table) e);
        cells_are = sym (ap (λ (w : Turned). w.crosspoints) e);
        answers-are = sym (ap (λ (w : Turned). w.answers) e);
        words_are = sym (ap (λ (w : Turned). w.answer) e);
      }

-- ---- a call that is not answered with 1 is a turn, and one that is leaves everything as it was

module _ (ws t c : List ℕ) (table : Rows) (fs path : List ℕ) (cells : Cells) (lent a : List ℕ) where
  abbrev d : Desk
  d = desk_in fs path cells

  record Taken (x : Turned) : Type 0 where
    pub fed : Fed
    pub after : After
    pub feeds-is : feeds (session_at ws) t c ≡ answers fed x.store
    pub later-is : later_at d fed.event x.store table ≡ gave after x.answers x.table x.crosspoints
    pub session-is : x.session ≡ words_of fed.session
    pub tells : Tells (record { offered = c; left = x })
        (record { offered = c; fed = fed; store = x.store; later = later_of after x.answers x.table x.crosspoints })

  module _ (r : Fed) (t' : List ℕ) (q : feeds (session_at ws) t c ≡ answers r t') where
    abbrev called : Called
    called = framed (answers r t')

    abbrev y : Left
    y = later_at d r.event t' table

    taken-told : Taken (turn_of called y)
    unfolding framed
    taken-told =
        record {
          fed = r;
          after = comes-after d c table r t';
          feeds-is = q;
          later-is = (said_at d r.event t' table).1;
          session-is = refl;
          tells = tells-told d c table r t';
        }

    taken-after : {x : Turned} → turn_after called d table lent a ≡ x → (x.number ≡ 1 → ⊥) → Taken x
    unfolding framed
    taken-after {x} g n = by (eqb called.number 1) refl g
      where
        by : (b : Bool) → eqb called.number 1 ≡ b
            → pick b
            (record {
              number = called.number;
              session = called.session;
              store = called.store;
              table = table;
              crosspoints = cells;
              answers = lent;
              answer = a;
            })
            (turn_of called (next called.number (take (get_or called.answer 2 0) called.store) d table)) ≡ x
            → Taken x
        by true e k = absurd (n (sym (ap (λ (w : Turned). w.number) k) ∙ eqb-true _ _ e))
        by false e k = subst Taken (ap (turn_of called) (sym (next-later d t' table r.event)) ∙ k) taken-told

  -- the session's call, which is not answered with 1 where words and lengths are right
  accepted-legal : accepts ws (length t) 3 ≡ true → Legal (session_at ws) t
  unfolding accepts
  accepted-legal h = legal-true (session_at ws) t (go (is_session ws) h)
    where
      go : (b : Bool) → pick b (legal (session_at ws) (length t)) false ≡ true → legal (session_at ws) (length t) ≡ true
      go true k = k
      go false k = absurd (true≢false (sym k))

  after-number : (w : Whole) → (turn_after (framed w) d table lent a).number ≡ w.said.number
  unfolding framed
  after-number w = go (eqb w.said.number 1)
    where
      go : (b : Bool) → (pick b (turn (framed w) (left no_more lent table cells) a)
          (turn_of (framed w) (next (framed w).number (take (get_or (framed w).answer 2 0) (framed w).store) d table))).number ≡ w.said.number
      go true = refl
      go false = refl

  abbrev refusal : Called
  refusal = record { number = 1; session = ws; store = t; answer = 0 ∷ 0 ∷ 0 ∷ [] }

  by_call : {x : Turned} → turned ws t c d table lent a ≡ x → ((x.number ≡ 1 → ⊥) → Taken x) × (x.number ≡ 1 → AsWas ws t c table fs path cells lent a x)
  unfolding turned calls
  by_call {x} g = by (accepts ws (length t) 3) refl g
    where
      by : (b : Bool) → accepts ws (length t) 3 ≡ b → turn_after (pick b (framed (feeds (session_at ws) t c)) refusal) d table lent a ≡ x
          → ((x.number ≡ 1 → ⊥) → Taken x) × (x.number ≡ 1 → AsWas ws t c table fs path cells lent a x)
      by false e k = (λ n. absurd (n (sym (ap (λ (w : Turned). w.number) k))), λ n. all_same ws t c table fs path cells lent a k)
      by true e k =
          let s = some-call (session_at ws) t c in
          let h = s.1.1.1 in (
            λ n. taken-after s.0 s.1.0 h (ap (λ (w : Whole). turn_after (framed w) d table lent a) (sym h) ∙ k) n,
            λ n. absurd (eqb-false _ _ (legal-answered (session_at ws) t c (accepted-legal e))
                (sym (after-number (feeds (session_at ws) t c)) ∙ ap (λ (w : Turned). w.number) k ∙ n)),
          )

  abbrev fit : Bool
  fit = lengths_fit (length table) (size_of (figures_at fs)) (length cells) (length path) (length a)

  by_turn : (x : Turned) → turns ws t c table fs path cells lent a ≡ x
      → ((x.number ≡ 1 → ⊥) → Taken x) × (x.number ≡ 1 → AsWas ws t c table fs path cells lent a x)
  unfolding turns
  by_turn x g = by (both (is_figures fs) fit) g
    where
      by : (b : Bool)
          → pick b (turned ws t c d table lent a)
          (record { number = 1; session = ws; store = t; table = table; crosspoints = cells; answers = lent; answer = a }) ≡ x
          → ((x.number ≡ 1 → ⊥) → Taken x) × (x.number ≡ 1 → AsWas ws t c table fs path cells lent a x)
      by false k = (λ n. absurd (n (sym (ap (λ (w : Turned). w.number) k))), λ n. all_same ws t c table fs path cells lent a k)
      by true k = by_call k

  -- "1 leaves everything as it was, 0 consumed"
  pub turn-as-was : (x : Turned) → turns ws t c table fs path cells lent a ≡ x → x.number ≡ 1 → AsWas ws t c table fs path cells lent a x
  turn-as-was x g n = (by_turn x g).1 n

-- ---- every list of calls

pub record Made (rows : ℕ) (fs path ws t : List ℕ) (cells : Cells) (bytes : List ℕ) (xs : List Round) (ws'' t'' : List ℕ) (cells'' : Cells)
    (rest : List ℕ) : Type 0 where
  pub list : List claim.Turn
  pub tell : AllTell xs list
  pub made : claim.Turns rows (session_at ws) t (desk_in fs path cells) bytes list (session_at ws'') t'' (desk_in fs path cells'') rest

-- a call that is answered with 1, before others
module _ {rows : ℕ} {fs path ws t : List ℕ} {cells : Cells} {bytes : List ℕ} {xs : List Round} {ws'' t'' : List ℕ} {cells'' : Cells} {rest : List ℕ} where
  from-same : {ws' t' : List ℕ} {cells' : Cells} → ws' ≡ ws → t' ≡ t → cells' ≡ cells → Made rows fs path ws' t' cells' bytes xs ws'' t'' cells'' rest
      → Made rows fs path ws t cells bytes xs ws'' t'' cells'' rest
  from-same {ws'} {t'} {cells'} e f g m =
      subst (λ (v : Cells). Made rows fs path ws t v bytes xs ws'' t'' cells'' rest) g
      (subst (λ (v : List ℕ). Made rows fs path ws v cells' bytes xs ws'' t'' cells'' rest) f
      (subst (λ (v : List ℕ). Made rows fs path v t' cells' bytes xs ws'' t'' cells'' rest) e m))

  told_none : {r : Round} → r.left.number ≡ 1 → Made rows fs path ws t cells bytes xs ws'' t'' cells'' rest
      → Made rows fs path ws t cells bytes (r ∷ xs) ws'' t'' cells'' rest
  told_none n m = record { list = m.list; tell = silent n m.tell; made = m.made }

put_back : (n : ℕ) (xs : List ℕ) {ys : List ℕ} → ys ≡ take n xs → ys ++ drop n xs ≡ xs
put_back n xs e = ap (λ (l : List ℕ). l ++ drop n xs) e ∙ take-append-drop n xs

pub rounds-made : {rows : ℕ} {fs path ws t : List ℕ} {cells : Cells} {bytes : List ℕ} {xs : List Round} {ws'' t'' : List ℕ} {cells'' : Cells} {rest : List ℕ}
    → Rounds rows fs path ws t cells bytes xs ws'' t'' cells'' rest → Made rows fs path ws t cells bytes xs ws'' t'' cells'' rest
rounds-made none = record { list = []; tell = rounds.none; made = claim.none }
rounds-made {ws = ws} {t} {cells} (refused i j k c later table figures numbers lent a x e n left) =
    let w = turn-as-was (take i ws) (take j t) c table figures numbers (take k cells) lent a x e n in
    told_none n (from-same (put_back i ws w.session-is) (put_back j t w.store_is) (put_back k cells w.cells_are) (rounds-made left))
rounds-made {rows} {fs} {path} {ws} {t} {cells} {ws'' = ws''} {t''} {cells''} {rest} (round c later table lent a x e n sized left) =
    joined (rounds-made left)
  where
    k : Taken ws t c table fs path cells lent a x
    k = (by_turn ws t c table fs path cells lent a x e).0 n

    f : Fed
    f = k.fed

    -- the turns after this one, from a session and with a count of bytes consumed
    onward : Session → ℕ → List claim.Turn → Type 0
    onward v i list =
        claim.Turns rows v x.store (desk_in fs path x.crosspoints) (drop i (c ++ later)) list (session_at ws'') t''
        (desk_in fs path cells'') rest

    joined : {xs : List Round} → Made rows fs path x.session x.store x.crosspoints (drop (get_or x.answer 1 0) (c ++ later)) xs ws'' t'' cells'' rest
        → Made rows fs path ws t cells (c ++ later) (record { offered = c; left = x } ∷ xs) ws'' t'' cells'' rest
    joined m =
        let s : session_at x.session ≡ f.session = ap session_at k.session-is ∙ words_back f.session in
        let p : get_or x.answer 1 0 ≡ f.consumed = ap (λ (w : List ℕ). get_or w 1 0) k.tells.words_are in
        let g = subst (λ (v : Session). onward v (get_or x.answer 1 0) m.list) s m.made in
        let h = subst (λ (i : ℕ). onward f.session i m.list) p g in
        record {
          list = record { offered = c; fed = f; store = x.store; later = later_of k.after x.answers x.table x.crosspoints } ∷ m.list;
          tell = more k.tells m.tell;
          made = function-turn c later table (record { fed = f; after = k.after; answers = x.answers }) x.table x.crosspoints sized k.feeds-is
              k.later-is h;
        }

-- ---- THE CLAIM

pub ember-claim : {rows : ℕ} {fs path t : List ℕ} {cells : Cells} {bytes : List ℕ} {xs : List Round} {ws' t' : List ℕ} {cells' : Cells} {rest : List ℕ}
    → length t ≡ store_length → desk_legal (desk_in fs path cells) ≡ true → Below 256 bytes
    → Rounds rows fs path (words_of (session_of begin)) t cells bytes xs ws' t' cells' rest
    → Claimed rows fs path cells bytes xs ws' t' cells' rest
ember-claim {rows} {fs} {path} {t} {cells} {bytes} {ws' = ws'} {t'} {cells'} {rest} room g b k =
    let m = rounds-made k in
    let fresh = subst
    (λ (s : Session). claim.Turns rows s t (desk_in fs path cells) bytes m.list (session_at ws') t' (desk_in fs path cells') rest)
    (words_back (session_of begin)) m.made in
    record { list = m.list; tell = m.tell; holds = rules-claim room g b fresh }

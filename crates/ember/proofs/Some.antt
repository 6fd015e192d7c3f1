-- The claim for `ember_turn` speaks of something: for every stream, every way to cut it and every legal desk there is a list of calls.
use Prim.Native.Nat.{ℕ, suc, ◌≤◌}
use mathlib.Core.Bool.{true, false}
use mathlib.Core.List.{List, [], ◌∷◌, append-nil}
use mathlib.Core.Path.{◌≡◌, refl, sym, ap, subst, ◌∙◌}
use borrow.Author.Tests.{eqb-false, eq-eqb, leb-true, le-leb}
use native.Mathlib.Omega.{arith}
use lib.Dec.{eqb}
use lib.ListN.{length}
use Rattle.ber_integers.proofs.Radix.{Below}
use Rattle.framing_session.specs.declared.Fed.{Fed}
use Rattle.framing_session.specs.declared.Session.{Session}
use Rattle.framing_content.specs.Numbers.{store_length}
use Rattle.framing_session.specs.Rules.{begin}
use Rattle.framing_session.specs.Session.{state_of, session_of, said_by, legal as is_fit, Legal, Whole, answers, feeds}
use Rattle.framing.specs.Offers as offers
use Rattle.framing_session.proofs.Laws.{true-legal}
use Rattle.framing.proofs.Sayable.{legal-answered}
use Rattle.framing.proofs.Chunks.{call-ran, fresh-legal}
use Rattle.framing.proofs.Calls as framing
use Rattle.framing_words.specs.Words.{words_of, session_at}
use Rattle.framing_answers.specs.Answers.{accepts}
use Rattle.framing_c.specs.Calls.{called_of as framed, calls}
use Rattle.framing_words.proofs.Laws.{words_back, words-session}
use Rattle.glow_rows.specs.Entry.{Rows}
use Rattle.base_choices.proofs.Laws.{both_left}
use Rattle.desk_crosspoints.specs.Figures.{size_of}
use Rattle.desk_crosspoints.specs.Crosspoints.{Cells}
use Rattle.desk_crosspoints.specs.Desk.{Desk, all_numbers, path_fits, desk_legal}
use Rattle.desk_crosspoints.proofs.Legal.{legal-fit, legal-length}
use Rattle.desk_crosspoints.proofs.Paths.{path-short, desk-fits, desk-legal}
use Rattle.turn_rules.specs.Rules.{keep, tells, after}
use Rattle.turn_rules.specs.Turns as claim
use Rattle.turns.specs.Whole.{later_of}
use Rattle.turn_rules.proofs.Follows.{comes-legal}
use Rattle.turns.proofs.Comes.{comes-at, said_at, function-turn}
use Rattle.turn_rules.proofs.Claim.{claim as rules-claim}
use Rattle.desk_words.specs.Words.{figures_at, desk_in, is_figures}
use Rattle.ember_answers.specs.Answers.{lengths_fit}
use Rattle.ember.specs.Calls.{turn_of, turn_after, turned, turns}
use Rattle.ember.specs.Rounds.{Round, Rounds, none, round, AllTell, more}
use Rattle.ember.specs.Rounds as rounds
use Rattle.ember.proofs.Claim.{next-later, comes, comes-after, tells-told}

-- ---- a legal desk has lengths that fit

path-some : (path : List ℕ) → path_fits path ≡ true → 1 ≤ length path
unfolding path_fits
path-some path h = leb-true _ _ (both_left _ _ (both_left _ (all_numbers path) h))

fit : (rows size cells path words : ℕ) → words ≡ 9 → rows ≤ 256 → cells ≡ size → 1 ≤ path → path ≤ 16 → lengths_fit rows size cells path words ≡ true
unfolding lengths_fit
fit rows size cells path words a b d e f = rw (eq-eqb words 9 a, le-leb _ _ b, eq-eqb _ _ d, le-leb _ _ e, le-leb _ _ f) refl

sized-legal : (d : Desk) → desk_legal d ≡ true → length d.crosspoints ≡ size_of d.figures
unfolding size_of
sized-legal d g =
    let h = desk-legal d g in
    legal-length d.figures d.crosspoints h ∙ rw (legal-fit d.figures d.crosspoints h) refl

-- ---- a call with a legal session and a legal desk is a turn

module _ (s : Session) (t c : List ℕ) (table : Rows) (fs path : List ℕ) (cells : Cells) (lent a : List ℕ) (r : Fed) (t' : List ℕ)
    (l : Legal s t) (e : feeds s t c ≡ answers r t') where
  abbrev d : Desk
  d = desk_in fs path cells

  accepted : accepts (words_of s) (length t) 3 ≡ true
  unfolding accepts
  accepted = rw (words-session s) (ap (λ (v : Session). is_fit v (length t)) (words_back s) ∙ true-legal s t l)

  calls_are : calls (words_of s) t c (0 ∷ 0 ∷ 0 ∷ []) ≡ framed (answers r t')
  unfolding calls
  calls_are = rw accepted (ap framed (ap (λ (v : Session). feeds v t c) (words_back s) ∙ e))

  not-one : eqb (said_by r.event t').number 1 ≡ false
  not-one = subst (λ (w : Whole). eqb w.said.number 1 ≡ false) e (legal-answered s t c l)

  after_is : turn_after (framed (answers r t')) d table lent a ≡ turn_of (framed (answers r t')) (comes d c table r t')
  unfolding framed
  after_is = rw (not-one, next-later d t' table r.event) refl

  made_told : is_figures fs ≡ true → lengths_fit (length table) (size_of (figures_at fs)) (length cells) (length path) (length a) ≡ true
      → turns (words_of s) t c table fs path cells lent a ≡ turn_of (framed (answers r t')) (comes d c table r t')
  unfolding turns turned
  made_told g h = rw (g, h, calls_are) after_is

-- ---- so there are lists of them: a table, answers and the answer's words lent at each call

module _ (rows : ℕ) (most : rows ≤ 256) (tables : ℕ → Rows) (sized : (i : ℕ) → length (tables i) ≡ rows) (lents : ℕ → List ℕ)
    (words : ℕ → List ℕ) (nine : (i : ℕ) → length (words i) ≡ 9) (fs path : List ℕ) (figures : is_figures fs ≡ true) where
  abbrev desk : Cells → Desk
  desk cells = desk_in fs path cells

  lengths : (i : ℕ) (cells : Cells) → desk_legal (desk cells) ≡ true
      → lengths_fit (length (tables i)) (size_of (figures_at fs)) (length cells) (length path) (length (words i)) ≡ true
  lengths i cells g =
      let f = desk-fits (desk cells) g in
      let n : length (tables i) ≡ rows = sized i in
      fit _ _ _ _ _ (nine i) (omega arith) (sized-legal (desk cells) g) (path-some path f)
      (path-short path f)

  record Some (s : Session) (t : List ℕ) (cells : Cells) (rest : List ℕ) (cs : List offers.Turn) (s'' : Session) (t'' rest'' : List ℕ) : Type 0 where
    pub made : List Round
    pub list : List claim.Turn
    pub cells'' : Cells
    pub calls-made : Rounds rows fs path (words_of s) t cells rest made (words_of s'') t'' cells'' rest''
    pub turns-made : claim.Turns rows s t (desk cells) rest list s'' t'' (desk cells'') rest''
    pub tell : AllTell made list
    pub same : claim.calls list ≡ cs

  some : {s s'' : Session} {t t'' rest rest'' : List ℕ} {cs : List offers.Turn} (i : ℕ) (cells : Cells) → desk_legal (desk cells) ≡ true → Legal s t
      → offers.Turns s t rest cs s'' t'' rest'' → Some s t cells rest cs s'' t'' rest''
  unfolding framed
  some i cells g l offers.none =
      record { made = []; list = []; cells'' = cells; calls-made = none; turns-made = claim.none; tell = rounds.none; same = refl }
  some {s} {t = t} i cells g l (offers.turn {t' = t'} c later r e left) =
      let d = desk cells in
      let y = comes d c (tables i) r t' in
      let z = comes-after d c (tables i) r t' in
      let x = turn_of (framed (answers r t')) y in
      let q = made_told s t c (tables i) fs path cells (lents i) (words i) r t' l e figures (lengths i cells g) in
      let n = not-one s t c (tables i) fs path cells (lents i) (words i) r t' l e in
      let legal' = comes-legal (comes-at rows d t' (tables i) (sized i) r.event) g in
      let m = some (suc i) y.crosspoints legal' (call-ran r e l).legal left in
      record {
        made = record { offered = c; left = x } ∷ m.made;
        list = record { offered = c; fed = r; store = t'; later = later_of z y.answers y.table y.crosspoints } ∷ m.list;
        cells'' = m.cells'';
        calls-made = round c later (tables i) (lents i) (words i) x q (one-not _ n) (sized i) m.calls-made;
        turns-made =
            function-turn c later (tables i) (record { fed = r; after = z; answers = y.answers }) y.table y.crosspoints (sized i) e
            (said_at d r.event t' (tables i)).1 m.turns-made;
        tell = more (tells-told d c (tables i) r t') m.tell;
        same = ap (λ (xs : List offers.Turn). record { offered = c; fed = r; store = t' } ∷ xs) m.same;
      }
    where
      one-not : (k : ℕ) → eqb k 1 ≡ false → k ≡ 1 → ⊥
      one-not k h p = eqb-false k 1 h p

  -- THE CLAIM, with nothing left open. For every stream of octets, every way to cut it, every store of the right length, every legal desk, and every table,
  -- answers and answer's words at each call, there is a list of calls of `ember_turn` that offers the chunks, each until it is consumed; it tells
  -- exactly what the
  -- rules tell for the stream, and leaves what they keep.
  pub record Offered (t : List ℕ) (cells : Cells) (bytes : List ℕ) (chunks : List (List ℕ)) : Type 0 where
    pub made : List Round
    pub session : List ℕ
    pub store : List ℕ
    pub cells' : Cells
    pub calls-made : Rounds rows fs path (words_of (session_of begin)) t cells bytes made session store cells' []
    pub list : List claim.Turn
    pub tell : AllTell made list
    pub served : offers.Serves chunks (claim.calls list)
    pub tells : claim.told list 0 ≡ tells rows (keep begin (desk cells)) 0 bytes
    pub keeps : keep (state_of (session_at session) store) (desk cells') ≡ after rows (keep begin (desk cells)) bytes

  pub ember-every-cut : (bytes : List ℕ) → Below 256 bytes → (chunks : List (List ℕ)) → offers.joined chunks ≡ bytes → (t : List ℕ)
      → length t ≡ store_length → (cells : Cells) → desk_legal (desk cells) ≡ true → Offered t cells bytes chunks
  ember-every-cut bytes b chunks e t room cells g =
      let k = framing.some-turns chunks (session_of begin) t (fresh-legal room) in
      let m = some 0 cells g (fresh-legal room) k.made in
      let calls-made =
      subst (λ (bs : List ℕ). Rounds rows fs path (words_of (session_of begin)) t cells bs m.made (words_of k.session) k.store m.cells'' []) e
      m.calls-made in
      let turns-made =
      subst (λ (bs : List ℕ). claim.Turns rows (session_of begin) t (desk cells) bs m.list k.session k.store (desk m.cells'') []) e m.turns-made in
      let f = rules-claim room g b turns-made in
      let x : offers.eaten (claim.calls m.list) ≡ bytes = sym (append-nil (offers.eaten (claim.calls m.list))) ∙ f.bytes-are in
      record {
        made = m.made;
        session = words_of k.session;
        store = k.store;
        cells' = m.cells'';
        calls-made = calls-made;
        list = m.list;
        tell = m.tell;
        served = subst (offers.Serves chunks) (sym m.same) k.served;
        tells = f.tells ∙ ap (tells rows (keep begin (desk cells)) 0) x;
        keeps =
            ap (λ (v : Session). keep (state_of v k.store) (desk m.cells'')) (words_back k.session) ∙ f.keeps
            ∙ ap (after rows (keep begin (desk cells))) x;
      }

-- The claim over every list of calls of framing_feed, refused ones among them, by what `calls` says, which is its contract: the calls that are not refused are
-- turns of framing's own claim, and the others leave everything as it was.
use Prim.Native.Nat.{ℕ, zero, suc, ◌+◌}
use mathlib.Core.Bool.{Bool, true, false, cond}
use mathlib.Core.List.{List, [], ◌∷◌, ◌++◌, append-nil}
use mathlib.Core.Logic.{◌⊎◌, inl, inr, ⊎_elim}
use mathlib.Core.Path.{◌≡◌, refl, sym, ap, subst, ◌∙◌}
use native.Mathlib.Omega.{arith}
use native.Mathlib.Nat.{add-zero}
use borrow.Author.Tests.{eq-eqb}
use lib.Dec.{eqb}
use lib.ListN.{length, take, drop, take-append-drop}
use Rattle.framing_session.specs.declared.Event.{Event}
use Rattle.framing_session.specs.declared.Event.TheVariants as ev
use Rattle.framing_session.specs.declared.Fed.{Fed}
use Rattle.framing_session.specs.declared.Session.{Session}
use Rattle.base_choices.specs.Choices.{pick}
use Rattle.framing_content.specs.Numbers.{store_length}
use Rattle.framing.specs.Offers as offers
use Rattle.framing.specs.Offers.{EndsWith}
use Rattle.framing_session.specs.Rules.{State, Said, Happening, quiet, begin, noted, happens, after}
use Rattle.framing_session.specs.Session.{said_by, state_of, session_of, Legal, Whole, answers, feeds}
use Rattle.framing_session.proofs.Laws.{true-legal, legal-true}
use Rattle.framing.proofs.Sayable.{legal-answered}
use Rattle.framing.proofs.Chunks as chunks
use Rattle.framing.proofs.Calls as framing
use Rattle.framing_words.specs.Words.{words_of, session_at}
use Rattle.framing_words.proofs.Laws.{words_back}
use Rattle.framing_answers.specs.Answers.{accepts}
use Rattle.framing_c.specs.Calls.{Started, starts, Called, called_of as told_by, calls}
use Rattle.framing_c.specs.Offers.{Turn, consumed, taken, says, Turns, none, turn, eaten, told, Stopped, Stops, AsRules}
use Rattle.framing_answers.proofs.Laws.{accepts-session, accepts-legal, accepts-words}

-- ---- what the answer's words say

take-front : (n : ℕ) (t : List ℕ) → take (length (take n t)) t ≡ take n t
take-front zero t = refl
take-front (suc n) [] = refl
take-front (suc n) (x ∷ t) = ap (λ (l : List ℕ). x ∷ l) (take-front n t)

bit-back : (b : Bool) → eqb (cond b 1 0) 1 ≡ b
bit-back true = refl
bit-back false = refl

said-words : (e : Event) (t : List ℕ)
    → record { number = (said_by e t).number; discarded = eqb (cond (said_by e t).discarded 1 0) 1; message = take (length (said_by e t).message) t }
    ≡ said_by e t
said-words ev.More t = refl
said-words ev.Setup t = refl
said-words (ev.Piece d) t = rw (bit-back d)
said-words (ev.Message n d) t = rw (bit-back d, take-front n t)
said-words ev.Request t = refl
said-words ev.Response t = refl
said-words (ev.Refused f d) t = rw (bit-back d)

-- ---- one call

-- as many elements as the list has are the list
whole-taken : (i : ℕ) (l : List ℕ) → length (take i l) ≡ length l → (take i l ≡ l) × (drop i l ≡ [])
whole-taken zero [] e = (refl, refl)
whole-taken zero (x ∷ l) e = absurd (omega (arith, e))
whole-taken (suc i) [] e = (refl, refl)
whole-taken (suc i) (x ∷ l) e = let k = whole-taken i l (omega (arith, e)) in (ap (λ (r : List ℕ). x ∷ r) k.0, k.1)

module _ (s : Session) (ws t c a : List ℕ) (i j : ℕ) (w : ws ≡ words_of s) (l : Legal s t) where
  -- a call that is refused
  abbrev Refused : Called → Type 0
  Refused r = (r.number ≡ 1) × ((r.session ++ drop i ws ≡ ws) × (r.store ++ drop j t ≡ t))

  -- one that is a call of framing's session
  record Made (r : Called) : Type 0 where
    pub fed : Fed
    pub store : List ℕ
    pub gives : feeds s t c ≡ answers fed store
    pub words_are : r.session ++ drop i ws ≡ words_of fed.session
    pub store_is : r.store ++ drop j t ≡ store
    pub number_is : r.number ≡ (said_by fed.event store).number
    pub consumed-is : consumed r ≡ fed.consumed
    pub says_is : says r ≡ said_by fed.event store

  refused : accepts (take i ws) (length (take j t)) (length a) ≡ false → Refused (calls (take i ws) (take j t) c a)
  unfolding calls
  refused h = rw h (refl, (take-append-drop i ws, take-append-drop j t))

  module _ (h : accepts (take i ws) (length (take j t)) (length a) ≡ true) where
    ws-whole : (take i ws ≡ ws) × (drop i ws ≡ [])
    ws-whole = whole-taken i ws (accepts-session _ _ _ h ∙ sym (ap length w))

    t-whole : (take j t ≡ t) × (drop j t ≡ [])
    t-whole = whole-taken j t ((legal-true (session_at (take i ws)) (take j t) (accepts-legal _ _ _ h)).room ∙ sym l.room)

    calls-feeds : calls (take i ws) (take j t) c a ≡ told_by (feeds s t c)
    unfolding calls
    calls-feeds =
        rw h
        (ap (λ (v : List ℕ). told_by (feeds (session_at v) (take j t) c)) (ws-whole.0 ∙ w)
        ∙ ap (λ (q : Session). told_by (feeds q (take j t) c)) (words_back s)
        ∙ ap (λ (u : List ℕ). told_by (feeds s u c)) t-whole.0)

    made_of : (f : Fed) (t' : List ℕ) → feeds s t c ≡ answers f t' → eqb (said_by f.event t').number 1 ≡ false → Made (told_by (answers f t'))
    unfolding told_by
    made_of f t' e o =
        record {
          fed = f;
          store = t';
          gives = e;
          words_are = ap (λ (r : List ℕ). words_of f.session ++ r) ws-whole.1;
          store_is = ap (λ (r : List ℕ). t' ++ r) t-whole.1 ∙ append-nil t';
          number_is = refl;
          consumed-is = rw o refl;
          says_is = rw o (said-words f.event t');
        }

    made : Made (calls (take i ws) (take j t) c a)
    made =
        let k = framing.some-call s t c in
        let e = k.1.1.1 in
        let o : eqb (said_by k.0.event k.1.0).number 1 ≡ false = subst (λ (x : Whole). eqb x.said.number 1 ≡ false) e (legal-answered s t c l) in
        subst Made (sym (calls-feeds ∙ ap told_by e)) (made_of k.0 k.1.0 e o)

  one : {r : Called} → calls (take i ws) (take j t) c a ≡ r → Refused r ⊎ Made r
  one e = subst (λ (x : Called). Refused x ⊎ Made x) e (go (accepts (take i ws) (length (take j t)) (length a)) refl)
    where
      go : (u : Bool) → accepts (take i ws) (length (take j t)) (length a) ≡ u
          → Refused (calls (take i ws) (take j t) c a) ⊎ Made (calls (take i ws) (take j t) c a)
      go true h = inr (made h)
      go false h = inl (refused h)

-- ---- the turns of framing's claim that a list of calls makes: the calls that are not refused

record Under (s : Session) (t : List ℕ) (n : ℕ) (bytes : List ℕ) (xs : List Turn) (ws'' t'' rest'' : List ℕ) : Type 0 where
  pub turns : List offers.Turn
  pub session : Session
  pub made : offers.Turns s t bytes turns session t'' rest''
  pub words_are : ws'' ≡ words_of session
  pub told_is : told xs n ≡ offers.told turns n
  pub eaten-is : eaten xs ≡ offers.eaten turns
  pub stops-are : (q : State) → offers.Stops q turns → offers.Counted turns → Stops q xs

-- a refused call before others
module _ (c : List ℕ) (r : Called) (h : r.number ≡ 1) where
  abbrev x : Turn
  x = record { offered = c; called = r }

  none-consumed : consumed r ≡ 0
  none-consumed = rw h

  none_told : says r ≡ quiet
  none_told = rw h

  none-taken : taken x ≡ []
  none-taken = ap (λ (k : ℕ). take k c) none-consumed

  refused-stopped : (q : State) → Stopped q x
  refused-stopped q =
      record {
        within = omega (arith, none-consumed);
        all = λ e. absurd (omega (arith, h, e));
        at-event = λ e.
            let z : ◌≡◌ {A = Bool} true false = ap (λ (y : Said). eqb y.number 0) (sym none_told) ∙ e in
            let y : ◌≡◌ {A = ℕ} 0 1 = cc in absurd (omega arith);
      }

  refused-before : {s : Session} {t bytes ws'' t'' rest'' : List ℕ} {n : ℕ} {xs : List Turn} → Under s t n bytes xs ws'' t'' rest''
      → Under s t n bytes (x ∷ xs) ws'' t'' rest''
  unfolding after
  refused-before {n = n} {xs = xs} u =
      record {
        turns = u.turns;
        session = u.session;
        made = u.made;
        words_are = u.words_are;
        told_is =
            ap (λ (e : Said). noted e (n + consumed r) (told xs (n + consumed r))) none_told
            ∙ ap (λ (k : ℕ). told xs (n + k)) none-consumed ∙ ap (told xs) (add-zero n) ∙ u.told_is;
        eaten-is = ap (λ (l : List ℕ). l ++ eaten xs) none-taken ∙ u.eaten-is;
        stops-are = λ q a b. (refused-stopped q, subst (λ (l : List ℕ). Stops (after q l) xs) (sym none-taken) (u.stops-are q a b));
      }

-- a call of framing's session before others
module _ (c later : List ℕ) (r : Called) (f : Fed) (t' : List ℕ) (number_is : r.number ≡ (said_by f.event t').number)
    (consumed-is : consumed r ≡ f.consumed) (says_is : says r ≡ said_by f.event t') where
  abbrev y : Turn
  y = record { offered = c; called = r }

  abbrev z : offers.Turn
  z = record { offered = c; fed = f; store = t' }

  same_taken : taken y ≡ take f.consumed c
  same_taken = ap (λ (k : ℕ). take k c) consumed-is

  made-stopped : (q : State) (us : List offers.Turn) → offers.Stops q (z ∷ us) → offers.Counted (z ∷ us) → Stopped q y
  made-stopped q us a b =
      record {
        within = omega (arith, consumed-is, b.0.0);
        all = λ e. consumed-is ∙ b.0.1 (eq-eqb _ _ (sym number_is ∙ e));
        at-event = λ e.
            subst (λ (l : List ℕ). EndsWith q l (says r)) (sym same_taken)
            (subst (EndsWith q (take f.consumed c)) (sym says_is) (a.0 (ap (λ (v : Said). eqb v.number 0) (sym says_is) ∙ e)));
      }

  made-before : {s : Session} {t ws'' t'' rest'' : List ℕ} {n : ℕ} {xs : List Turn} → feeds s t c ≡ answers f t'
      → Under f.session t' (n + f.consumed) (drop f.consumed (c ++ later)) xs ws'' t'' rest'' → Under s t n (c ++ later) (y ∷ xs) ws'' t'' rest''
  made-before {n = n} {xs = xs} e u =
      record {
        turns = z ∷ u.turns;
        session = u.session;
        made = offers.turn c later f e u.made;
        words_are = u.words_are;
        told_is =
            ap (λ (k : ℕ). noted (says r) (n + k) (told xs (n + k))) consumed-is
            ∙ ap (λ (v : Said). noted v (n + f.consumed) (told xs (n + f.consumed))) says_is
            ∙ ap (λ (hs : List Happening). noted (said_by f.event t') (n + f.consumed) hs) u.told_is;
        eaten-is = ap (λ (l : List ℕ). l ++ eaten xs) same_taken ∙ ap (λ (l : List ℕ). take f.consumed c ++ l) u.eaten-is;
        stops-are = λ q a b.
            let more = u.stops-are (after q (take f.consumed c)) a.1 b.1 in
            (made-stopped q u.turns a b, subst (λ (l : List ℕ). Stops (after q l) xs) (sym same_taken) more);
      }

under : {ws t bytes ws'' t'' rest'' : List ℕ} {xs : List Turn} → Turns ws t bytes xs ws'' t'' rest'' → (n : ℕ) (s : Session) {t₀ bytes₀ : List ℕ}
    → ws ≡ words_of s → t ≡ t₀ → bytes ≡ bytes₀ → Legal s t₀ → Under s t₀ n bytes₀ xs ws'' t'' rest''
under {ws} {t} {bytes} none n s {bytes₀ = bytes₀} w p q l =
    record {
      turns = [];
      session = s;
      made = subst (λ (u : List ℕ). offers.Turns s u bytes₀ [] s t bytes) p (subst (λ (b : List ℕ). offers.Turns s t b [] s t bytes) q offers.none);
      words_are = w;
      told_is = refl;
      eaten-is = refl;
      stops-are = λ _ _ _. tt;
    }
under {ws} {t} {ws'' = ws''} {t'' = t''} {rest'' = rest''} (turn {xs = xs} i j a c later r e more) n s {t₀} {bytes₀} w p q l =
    subst (λ (b : List ℕ). Under s t₀ n b (record { offered = c; called = r } ∷ xs) ws'' t'' rest'') q
    (⊎_elim
    (λ (k : Refused s ws t₀ c a i j w l r).
    refused-before c r k.0
    (under more n s (k.1.0 ∙ w) (ap (λ (u : List ℕ). r.store ++ drop j u) p ∙ k.1.1)
    (ap (λ (d : ℕ). drop d (c ++ later)) (none-consumed c r k.0)) l))
    (λ (k : Made s ws t₀ c a i j w l r).
    made-before c later r k.fed k.store k.number_is k.consumed-is k.says_is k.gives
    (under more (n + k.fed.consumed) k.fed.session k.words_are (ap (λ (u : List ℕ). r.store ++ drop j u) p ∙ k.store_is)
    (ap (λ (d : ℕ). drop d (c ++ later)) k.consumed-is) (chunks.call-ran k.fed k.gives l).legal))
    (one s ws t₀ c a i j w l (subst (λ (u : List ℕ). calls (take i ws) (take j u) c a ≡ r) p e)))

-- ---- the claim

-- from the words of any legal session
pub as-rules : {ws t bytes ws'' t'' rest'' : List ℕ} {xs : List Turn} → Turns ws t bytes xs ws'' t'' rest'' → (n : ℕ) (s : Session) → ws ≡ words_of s → Legal s t
    → AsRules (state_of s t) n xs ws'' t'' bytes rest''
as-rules {t = t} {ws'' = ws''} {t'' = t''} {rest'' = rest''} turns n s w l =
    let u = under turns n s w refl refl l in
    let f = chunks.as-rules u.made n l in
    let b : session_at ws'' ≡ u.session = ap session_at u.words_are ∙ words_back u.session in
    record {
      events = u.told_is ∙ f.events ∙ ap (λ (l : List ℕ). happens (state_of s t) n l) (sym u.eaten-is);
      state = ap (λ (q : Session). state_of q t'') b ∙ f.state ∙ ap (λ (l : List ℕ). after (state_of s t) l) (sym u.eaten-is);
      bytes-are = ap (λ (l : List ℕ). l ++ rest'') u.eaten-is ∙ f.bytes-are;
      stops = u.stops-are (state_of s t) f.stops f.counted;
      accepted =
          subst (λ (v : List ℕ). accepts v (length t'') 3 ≡ true) (sym u.words_are)
          (accepts-words u.session (length t'') (true-legal u.session t'' f.legal));
    }

-- what framing_start leaves where it answers 0
pub fresh-words : (ws₀ : List ℕ) {ws : List ℕ} → starts ws₀ ≡ record { number = 0; session = ws } → ws ≡ words_of (session_of begin)
unfolding starts
fresh-words ws₀ {ws} = go (eqb (length ws₀) 4)
  where
    go : (u : Bool)
        → ◌≡◌ {A = Started} (pick u (record { number = 0; session = words_of (session_of begin) }) (record { number = 1; session = ws₀ }))
        (record { number = 0; session = ws })
        → ws ≡ words_of (session_of begin)
    go true e = ap (λ (x : Started). x.session) (sym e)
    go false e = let z : ◌≡◌ {A = ℕ} 1 0 = ap (λ (x : Started). x.number) e in absurd (omega (arith, z))

-- THE CLAIM. From words that framing_start made and any store of the right length, for every list of calls of framing_feed, refused ones among them: the
-- events told are those that the rules give for the bytes consumed, each once and in order, with its offset, its discard and its message's bytes; a
-- refused call tells nothing, consumes nothing and changes nothing.
pub claim : (ws₀ : List ℕ) {ws t bytes ws'' t'' rest : List ℕ} {xs : List Turn} → starts ws₀ ≡ record { number = 0; session = ws } → length t ≡ store_length
    → Turns ws t bytes xs ws'' t'' rest → AsRules begin 0 xs ws'' t'' bytes rest
claim ws₀ b room turns = as-rules turns 0 (session_of begin) (fresh-words ws₀ b) (chunks.fresh-legal room)

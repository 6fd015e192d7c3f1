-- THEOREM: the store that `find_message` leaves is what calls of `framing::feed` leave there that consume the same bytes, on whatever chunks.
use Prim.Native.Nat.{ℕ, suc, ◌+◌}
use mathlib.Core.Path.{◌≡◌, refl, sym, ap, subst, ◌∙◌}
use mathlib.Core.List.{List, [], ◌∷◌, ◌++◌}
use mathlib.Core.Bool.{Bool, true, false}
use native.Mathlib.Omega.{arith}
use lib.Dec.{leb, eqb}
use lib.ListN.{length, take}
use Rattle.framing_session.specs.declared.Fed.{Fed}
use Rattle.framing_session.specs.declared.Session.{Session}
use Rattle.base_choices.specs.Choices.{pick}
use Rattle.framing_content.specs.Numbers.{store_length}
use Rattle.framing_session.specs.Rules.{State, step, begin, after}
use Rattle.framing_session.specs.Session.{state_of, session_of, Legal, kept, Whole, whole, answers, run, feeds}
use Rattle.framing.specs.Offers.{Turn, Turns, none, turn, eaten}
use Rattle.framing_session.proofs.Laws.{true-legal}
use Rattle.framing.proofs.Chunks.{call-ran, fresh-legal}
use Rattle.sheet_stream.specs.Finding.{store_from, up_to_fault}

-- after all of the bytes
unfoldable stores : State → List ℕ → List ℕ → List ℕ
stores s t [] = t
stores s t (b ∷ bs) = stores (step s b).next (kept (step s b) t) bs

stores-append : (xs ys : List ℕ) (s : State) (t : List ℕ) → stores s t (xs ++ ys) ≡ stores (after s xs) (stores s t xs) ys
unfolding stores after
stores-append [] ys s t = refl
stores-append (x ∷ xs) ys s t = stores-append xs ys (step s x).next (kept (step s x) t)

stores-up : (bs : List ℕ) (s : State) (t : List ℕ) → stores s t (up_to_fault s bs) ≡ store_from s t bs
unfolding stores up_to_fault store_from
stores-up [] s t = refl
stores-up (b ∷ bs) s t = go (leb 10 (step s b).said.number) (stores-up bs (step s b).next (kept (step s b) t))
  where
    go : (u : Bool) → stores (step s b).next (kept (step s b) t) (up_to_fault (step s b).next bs) ≡ store_from (step s b).next (kept (step s b) t) bs
        → stores s t (pick u (b ∷ []) (b ∷ up_to_fault (step s b).next bs)) ≡ pick u (kept (step s b) t) (store_from (step s b).next (kept (step s b) t) bs)
    go true h = refl
    go false h = h

-- a run over a chunk
record Ran (c : List ℕ) (s : State) (t : List ℕ) (i : ℕ) (w : Whole) : Type 0 where
  pub d : ℕ
  pub counted : w.consumed ≡ i + d
  pub store_is : w.store ≡ stores s t (take d c)

ran : (c : List ℕ) (s : State) (t : List ℕ) (i : ℕ) → Ran c s t i (run c s t i)
unfolding run stores
ran [] s t i = record { d = 0; counted = omega arith; store_is = refl }
ran (x ∷ xs) s t i = go (eqb (step s x).said.number 0) (ran xs (step s x).next (kept (step s x) t) (i + 1))
  where
    go : (u : Bool) → Ran xs (step s x).next (kept (step s x) t) (i + 1) (run xs (step s x).next (kept (step s x) t) (i + 1))
        → Ran (x ∷ xs) s t i
        (pick u (run xs (step s x).next (kept (step s x) t) (i + 1)) (whole (step s x).said (i + 1) (step s x).next (kept (step s x) t)))
    go true r = record { d = suc r.d; counted = omega (arith, r.counted); store_is = r.store_is }
    go false r = record { d = 1; counted = refl; store_is = refl }

-- a call
at_count : (c : List ℕ) (s : State) (t : List ℕ) (w : Whole) → Ran c s t 0 w → w.store ≡ stores s t (take w.consumed c)
at_count c s t w g =
    let i : g.d ≡ w.consumed = omega (arith, g.counted) in
    subst (λ (d : ℕ). w.store ≡ stores s t (take d c)) i g.store_is

call-stores : {s : Session} {t : List ℕ} (c : List ℕ) (r : Fed) {t' : List ℕ} → feeds s t c ≡ answers r t' → Legal s t
    → t' ≡ stores (state_of s t) t (take r.consumed c)
unfolding feeds
call-stores {s} {t} c r {t'} k l =
    let e : run c (state_of s t) t 0 ≡ answers r t' = rw (true-legal s t l) at k in
    at_count c (state_of s t) t (answers r t') (subst (λ (w : Whole). Ran c (state_of s t) t 0 w) e (ran c (state_of s t) t 0))

-- calls one after another
calls-store : {s s'' : Session} {t t'' rest rest'' : List ℕ} {ts : List Turn} → Legal s t → Turns s t rest ts s'' t'' rest''
    → t'' ≡ stores (state_of s t) t (eaten ts)
unfolding stores
calls-store l none = refl
calls-store {s} {s''} {t} {t''} l (turn {t' = t'} {ts = ts} c later r e more) =
    let k = call-ran r e l in
    let i : k.d ≡ r.consumed = omega (arith, k.counted) in
    let x = take r.consumed c in
    let h : state_of r.session t' ≡ after (state_of s t) x = k.held ∙ ap (λ (d : ℕ). after (state_of s t) (take d c)) i in
    calls-store k.legal more
    ∙ ap (λ (v : State). stores v t' (eaten ts)) h
    ∙ ap (λ (v : List ℕ). stores (after (state_of s t) x) v (eaten ts)) (call-stores c r e l)
    ∙ sym (stores-append x (eaten ts) (state_of s t) t)

pub stored-by-calls : (bs : List ℕ) {s : Session} {t t' bytes rest : List ℕ} {ts : List Turn} → length t ≡ store_length
    → Turns (session_of begin) t bytes ts s t' rest → eaten ts ≡ up_to_fault begin bs → store_from begin t bs ≡ t'
stored-by-calls bs {t = t} room calls e =
    sym (stores-up bs begin t) ∙ ap (stores begin t) (sym e) ∙ sym (calls-store (fresh-legal room) calls)

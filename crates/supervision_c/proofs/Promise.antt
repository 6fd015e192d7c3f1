-- THE PROMISE of request 01 for the C functions, over every list of calls: the words hold the state that `show` would be handed, so the calls are those of
-- supervision's own promise. It rests on the contracts of supervision_start and supervision_show; that there are such calls for every list is shown at the
-- end.
use Prim.Native.Nat.{ℕ, ◌+◌, ◌≤◌, ◌<◌}
use mathlib.Core.Bool.{Bool, true, false}
use mathlib.Core.List.{List, [], ◌∷◌, ◌++◌, map}
use mathlib.Core.Path.{◌≡◌, refl, sym, ap, subst, ◌∙◌}
use native.Mathlib.Omega.{arith}
use borrow.Author.Tests.{eq-eqb, eqb-true, ltb-true}
use contract.Lifetimes.{Lfts}
use denote.Ref.{MutBor}
use denote.Triple.Clauses as Clauses
use borrow.Fn.World as World
use borrow.Fn.Kinds as K
use lib.Dec.{ltb, eqb}
use lib.ListN.{length, take, drop, take-append-drop}
use types.Run.{OneOf, hit}
use Rattle.framing_session.specs.declared.Event.{Event as SessionEvent}
use Rattle.framing_session.specs.declared.Event.TheVariants as ev
use Rattle.base_choices.specs.Choices.{pick}
use Rattle.base_choices.proofs.Laws.{pick-by}
use Rattle.framing_session.specs.Session.{said_by}
use Rattle.supervision.specs.declared.Answer.{Answer}
use Rattle.supervision.specs.declared.Answer.TheVariants as say
use Rattle.supervision.specs.declared.Happened.{Happened}
use Rattle.supervision.specs.declared.Happened.TheVariants.{Nothing, Event, Request}
use Rattle.supervision.specs.declared.Link.{Link}
use Rattle.supervision.specs.declared.Link.TheVariants.{Silent, Asked, Dead}
use Rattle.supervision.specs.declared.Shown.{Shown}
use Rattle.supervision.specs.Events.{happened_by}
use Rattle.supervision.specs.Promise as rules
use Rattle.supervision.specs.Promise.{tick_at, Often, last_event, is_dead}
use Rattle.supervision.specs.Rules.{Showing}
use Rattle.supervision.specs.Supervisor.{wrap, begun, is_due, waited, heard, shows}
use Rattle.supervision.proofs.Promise as supervision
use Rattle.supervision_c.specs.Words.{tick_word, words_of, link_at, is_link, number_of}
use Rattle.supervision_c.specs.Calls.{Called, setup, starts, called_of, calls}
use Rattle.supervision_c.specs.Promise.{start_numbers, show_numbers, Seen, showing, showings, Shows, none, show, refused}
use Rattle.supervision_c.specs.Promise.{DeadBy, here, later, NeverDead, Promised, Silence, asks, dead_number}
use Rattle.supervision_c.proofs.Laws.{words_back, words-link}
use Rattle.supervision_c.specs.contracts.supervision_start
use Rattle.supervision_c.proofs.supervision_start.Kinds as start-kinds
use Rattle.supervision_c.proofs.supervision_start.Reads as start-reads
use Rattle.supervision_c.specs.contracts.supervision_show
use Rattle.supervision_c.proofs.supervision_show.Kinds as show-kinds
use Rattle.supervision_c.proofs.supervision_show.Reads as show-reads

-- ---- words that hold a state

-- a tick that is kept has 32 bits
waited-tick : (l : Link) (tick : ℕ) → tick_word l < wrap → tick < wrap → tick_word (waited l tick).link < wrap
unfolding waited
waited-tick (Silent t) tick h k = pick-by (λ (x : Shown). tick_word x.link < wrap) (is_due t tick) (λ e. k) (λ e. h)
waited-tick (Asked t) tick h k = pick-by (λ (x : Shown). tick_word x.link < wrap) (is_due t tick) (λ e. omega arith) (λ e. h)
waited-tick Dead tick h k = omega arith

heard-tick : (l : Link) (tick : ℕ) → tick < wrap → tick_word (heard l tick) < wrap
heard-tick (Silent t) tick k = k
heard-tick (Asked t) tick k = k
heard-tick Dead tick k = omega arith

shows-tick : (l : Link) (tick : ℕ) (h : Happened) → tick_word l < wrap → tick < wrap → tick_word (shows l tick h).link < wrap
unfolding shows
shows-tick l tick Nothing a k = waited-tick l tick a k
shows-tick l tick Event a k = waited-tick (heard l tick) tick (heard-tick l tick k) k
shows-tick l tick Request a k = heard-tick l tick k

tick-small : (o time : ℕ) → tick_at o time < wrap
tick-small o time = omega arith

-- a call with a state's words is a call of `show`
calls-words : (l : Link) (tick n : ℕ) → tick_word l < wrap → calls (words_of l) tick n ≡ called_of (shows l tick (happened_by n))
unfolding calls
calls-words l tick n h = rw (words-link l h) (ap (λ (x : Link). called_of (shows x tick (happened_by n))) (words_back l))

-- a call that is answered with 1 leaves the words as they were
answer-other : (r : Answer) → number_of r ≡ 1 → ⊥
answer-other say.Nothing h = omega (arith, h)
answer-other say.Ask h = omega (arith, h)
answer-other say.Respond h = omega (arith, h)
answer-other say.Dead h = omega (arith, h)

refused-same : (ws : List ℕ) (i tick n : ℕ) {r : Called} → calls (take i ws) tick n ≡ r → r.number ≡ 1 → r.link ++ drop i ws ≡ ws
unfolding calls
refused-same ws i tick n e q =
    subst (λ (v : Called). v.number ≡ 1 → v.link ++ drop i ws ≡ ws) e
    (pick-by (λ (v : Called). v.number ≡ 1 → v.link ++ drop i ws ≡ ws) (is_link (take i ws))
    (λ _ h. absurd (answer-other (shows (link_at (take i ws)) tick (happened_by n)).answer h)) (λ _ h. take-append-drop i ws)) q

-- ---- the calls of supervision's promise that a list of calls makes

record Under (o : ℕ) (l : Link) (xs : List Seen) (ns ws'' : List ℕ) : Type 0 where
  pub answered : List Answer
  pub link : Link
  pub made : rules.Calls o l (showings xs) answered link
  pub numbers-are : ns ≡ map number_of answered
  pub words_are : ws'' ≡ words_of link

under : {o : ℕ} {ws ws'' : List ℕ} {xs : List Seen} {ns : List ℕ} → Shows o ws xs ns ws'' → (l : Link) → ws ≡ words_of l → tick_word l < wrap → Under o l xs ns ws''
under none l w h = record { answered = []; link = l; made = rules.none; numbers-are = refl; words_are = w }
under {o} {ws} (show {ns = ns} x r e more) l w h =
    let tick = tick_at o x.time in
    let s = shows l tick (happened_by x.number) in
    let q : r ≡ called_of s = sym e ∙ ap (λ (v : List ℕ). calls v tick x.number) w ∙ calls-words l tick x.number h in
    let k = under more s.link (ap (λ (v : Called). v.link) q) (shows-tick l tick (happened_by x.number) h (tick-small o x.time)) in
    record {
      answered = s.answer ∷ k.answered;
      link = k.link;
      made = rules.call (showing x) s refl k.made;
      numbers-are = ap (λ (v : Called). v.number ∷ ns) q ∙ ap (λ (v : List ℕ). number_of s.answer ∷ v) k.numbers-are;
      words_are = k.words_are;
    }
under {ws = ws} (refused i tick n r e q more) l w h = under more l (refused-same ws i tick n e q ∙ w) h

-- ---- dead, by numbers

dead-number : (r : Answer) → is_dead r ≡ false → eqb (number_of r) 4 ≡ false
dead-number say.Nothing h = refl
dead-number say.Ask h = refl
dead-number say.Respond h = refl
dead-number say.Dead h = let z : ◌≡◌ {A = ℕ} 0 1 = cc in absurd (omega arith)

never-numbers : (rs : List Answer) → rules.NeverDead rs → NeverDead (map number_of rs)
never-numbers [] h = tt
never-numbers (r ∷ rs) h = (dead-number r h.0, never-numbers rs h.1)

by-numbers : {t : ℕ} (xs : List Seen) (rs : List Answer) → rules.DeadBy t (showings xs) rs → DeadBy t xs (map number_of rs)
by-numbers {t = t} [] rs x' = elim x' [ ]
by-numbers (x ∷ xs) rs (rules.here h) = here h
by-numbers (x ∷ xs) (r ∷ rs) (rules.later k) = later (by-numbers xs rs k)

-- ---- the promise

-- what supervision_start leaves where it answers 0
begun-words : (ws₀ : List ℕ) (tick : ℕ) {ws : List ℕ} → starts ws₀ tick ≡ record { number = 0; link = ws } → ws ≡ words_of (begun tick)
unfolding starts
begun-words ws₀ tick {ws} = go (eqb (length ws₀) 2)
  where
    go : (u : Bool) → ◌≡◌ {A = Called} (pick u (record { number = 0; link = words_of (begun tick) }) (setup ws₀)) (record { number = 0; link = ws })
        → ws ≡ words_of (begun tick)
    go true e = ap (λ (x : Called). x.link) (sym e)
    go false e = let z : ◌≡◌ {A = ℕ} 1 0 = ap (λ (x : Called). x.number) e in absurd (omega (arith, z))

-- From the start at the time s up to the present z, for every tick that the start may have and every list of showings that are often enough: whatever
-- numbers the calls show, they answer as promised.
pub promise : (ws₀ : List ℕ) {o s z : ℕ} {ws ws'' : List ℕ} {xs : List Seen} {ns : List ℕ} → starts ws₀ (tick_at o s) ≡ record { number = 0; link = ws }
    → Shows o ws xs ns ws'' → Often s (showings xs) z → Promised s z xs ns
promise ws₀ {o} {s} {z} {xs = xs} b calls often =
    let k = under calls (begun (tick_at o s)) (begun-words ws₀ (tick_at o s) b) (tick-small o s) in
    let f = supervision.promise k.made often in
    let t = last_event s (showings xs) + 12000 in
    record {
      as-rules = k.numbers-are ∙ ap (map number_of) f.as-rules;
      dead-in-time = λ h. subst (DeadBy t xs) (sym k.numbers-are) (by-numbers xs k.answered (f.dead-in-time h));
      never-dead = λ h. subst NeverDead (sym k.numbers-are) (never-numbers k.answered (f.never-dead h));
    }

-- ---- "it asks, once a silence"

abbrev is_silent : Link → Bool
is_silent (Silent t) = true
is_silent (Asked t) = false
is_silent Dead = false

never : {A : Type 0} → true ≡ false → A
never e = let z : ◌≡◌ {A = ℕ} 0 1 = cc in absurd (omega arith)

-- with no event, a link that has asked, or is dead, does not ask and stays so
abbrev Still : Shown → Type 0
Still x = (eqb (number_of x.answer) 2 ≡ false) × (is_silent x.link ≡ false)

still-asked : (l : Link) (tick : ℕ) → is_silent l ≡ false → Still (waited l tick)
unfolding waited
still-asked (Silent t) tick h = never h
still-asked (Asked t) tick h = pick-by Still (is_due t tick) (λ e. (refl, refl)) (λ e. (refl, refl))
still-asked Dead tick h = (refl, refl)

-- .. and one that is silent after a showing did not ask at it
still-silent : (l : Link) (tick : ℕ) → is_silent (waited l tick).link ≡ true → eqb (number_of (waited l tick).answer) 2 ≡ false
unfolding waited
still-silent (Silent t) tick =
    pick-by (λ (x : Shown). is_silent x.link ≡ true → eqb (number_of x.answer) 2 ≡ false) (is_due t tick) (λ e h. never (sym h)) (λ e h. refl)
still-silent (Asked t) tick =
    pick-by (λ (x : Shown). is_silent x.link ≡ true → eqb (number_of x.answer) 2 ≡ false) (is_due t tick) (λ e h. never (sym h)) (λ e h. refl)
still-silent Dead tick = λ h. never (sym h)

quiet-shown : (l : Link) (tick : ℕ) {h : Happened} {r : Shown} → r ≡ shows l tick h → h ≡ Nothing → r ≡ waited l tick
unfolding shows
quiet-shown l tick e q = e ∙ ap (shows l tick) q

none-asked : {o : ℕ} {xs : List Showing} {rs : List Answer} {l l' : Link} → rules.Calls o l xs rs l' → is_silent l ≡ false → Silence xs
    → asks (map number_of rs) ≡ 0
none-asked rules.none q h = refl
none-asked {o} {l = l} (rules.call x r e more) q h =
    let k = subst Still (sym (quiet-shown l (tick_at o x.time) e h.0)) (still-asked l (tick_at o x.time) q) in
    rw k.0 (none-asked more k.1 h.1)

once-asked : {o : ℕ} {xs : List Showing} {rs : List Answer} {l l' : Link} → rules.Calls o l xs rs l' → Silence xs → asks (map number_of rs) ≤ 1
once-asked rules.none h = omega arith
once-asked {o} {l = l} (rules.call {rs = rs} x r e more) h = go (is_silent r.link) refl (once-asked more h.1) (λ q. none-asked more q h.1)
  where
    go : (u : Bool) → is_silent r.link ≡ u → asks (map number_of rs) ≤ 1 → (is_silent r.link ≡ false → asks (map number_of rs) ≡ 0)
        → pick (eqb (number_of r.answer) 2) (asks (map number_of rs) + 1) (asks (map number_of rs)) ≤ 1
    go true q once zero =
        let s : eqb (number_of r.answer) 2 ≡ false =
        subst (λ (v : Shown). is_silent v.link ≡ true → eqb (number_of v.answer) 2 ≡ false)
        (sym (quiet-shown l (tick_at o x.time) e h.0)) (still-silent l (tick_at o x.time)) q in
        rw s once
    go false q once zero = pick-by (λ (n : ℕ). n ≤ 1) (eqb (number_of r.answer) 2) (λ _. omega (arith, zero q)) (λ _. once)

-- From the words of any state, whatever the ticks: calls that show no event ask for a request once at most.
pub asks-once : {o : ℕ} {ws ws'' : List ℕ} {xs : List Seen} {ns : List ℕ} → Shows o ws xs ns ws'' → (l : Link) → ws ≡ words_of l → tick_word l < wrap
    → Silence (showings xs) → asks ns ≤ 1
asks-once calls l w h q =
    let k = under calls l w h in
    subst (λ (v : List ℕ). asks v ≤ 1) (sym k.numbers-are) (once-asked k.made q)

-- A request has its response in every state, whatever the tick.
pub request-answered : (ws : List ℕ) (tick : ℕ) → is_link ws ≡ true → (calls ws tick 4).number ≡ 3
unfolding calls shows
request-answered ws tick h = rw h refl

-- ---- "dead, for good"

dead-called : (tick n : ℕ) → calls (words_of Dead) tick n ≡ record { number = pick (eqb n 4) 3 4; link = words_of Dead }
unfolding shows waited
dead-called tick n = calls-words Dead tick n (omega arith) ∙ go (ltb n 2) refl (eqb n 4) refl
  where
    go : (u : Bool) → ltb n 2 ≡ u → (v : Bool) → eqb n 4 ≡ v
        → ◌≡◌ {A = Called} (called_of (shows Dead tick (pick u Nothing (pick v Request Event)))) (record { number = pick v 3 4; link = words_of Dead })
    go true a true b = absurd (omega (arith, ltb-true n 2 a, eqb-true n 4 b))
    go true a false b = refl
    go false a true b = refl
    go false a false b = refl

-- A dead link stays dead, whatever is shown, and answers so; a request has its response.
pub dead-for-good : {o : ℕ} {ws ws'' : List ℕ} {xs : List Seen} {ns : List ℕ} → Shows o ws xs ns ws'' → ws ≡ words_of Dead
    → (ns ≡ map dead_number xs) × (ws'' ≡ words_of Dead)
dead-for-good none w = (refl, w)
dead-for-good {o} (show {ns = ns} x r e more) w =
    let tick = tick_at o x.time in
    let q : r ≡ record { number = dead_number x; link = words_of Dead } =
    sym e ∙ ap (λ (v : List ℕ). calls v tick x.number) w ∙ dead-called tick x.number in
    let k = dead-for-good more (ap (λ (v : Called). v.link) q) in
    (ap (λ (v : Called). v.number ∷ ns) q ∙ ap (λ (v : List ℕ). dead_number x ∷ v) k.0, k.1)
dead-for-good {ws = ws} (refused i tick n r e q more) w = dead-for-good more (refused-same ws i tick n e q ∙ w)

-- The number of a session call's event, whatever store it left, shows what `happening` says of the event.
pub number-happening : (e : SessionEvent) (t : List ℕ) → happened_by (said_by e t).number ≡ happened_by (said_by e []).number
number-happening ev.More t = refl
number-happening ev.Setup t = refl
number-happening (ev.Piece d) t = refl
number-happening (ev.Message n d) t = refl
number-happening ev.Request t = refl
number-happening ev.Response t = refl
number-happening (ev.Refused f d) t = refl

-- ---- with which numbers, whatever is handed in

pub start-numbers : (ws : List ℕ) (tick : ℕ) → OneOf start_numbers (starts ws tick).number
unfolding starts
start-numbers ws tick =
    pick-by (λ (x : Called). OneOf start_numbers x.number) (eqb (length ws) 2) (λ e. hit start_numbers 0 tt) (λ e. hit start_numbers 1 tt)

answer-numbered : (r : Answer) → OneOf show_numbers (number_of r)
answer-numbered say.Nothing = hit show_numbers (number_of say.Nothing) tt
answer-numbered say.Ask = hit show_numbers (number_of say.Ask) tt
answer-numbered say.Respond = hit show_numbers (number_of say.Respond) tt
answer-numbered say.Dead = hit show_numbers (number_of say.Dead) tt

pub show-numbers : (ws : List ℕ) (tick n : ℕ) → OneOf show_numbers (calls ws tick n).number
unfolding calls
show-numbers ws tick n =
    pick-by (λ (x : Called). OneOf show_numbers x.number) (is_link ws)
    (λ e. answer-numbered (shows (link_at ws) tick (happened_by n)).answer) (λ e. hit show_numbers 1 tt)

-- ---- the contracts

-- supervision_start was called with the words ws and the tick, answered n and left ws': what its contract has it ensure.
pub record Started (ws : List ℕ) (tick n : ℕ) (ws' : List ℕ) : Type 0 where
  pub κs : Lfts 1
  pub args : World.ArgsD supervision_start.signature κs
  pub exits : Clauses.AtExit (K.ended_of 1 start-kinds.ps start-kinds.r) κs
  pub words_are : args.0.now ≡ ws
  pub tick_is : args.1.0 ≡ tick
  pub left-are : exits.0.now ≡ ws'
  pub ensured : start-reads.Post κs args n exits

-- supervision_show was called with the words ws, the tick and the number n, and answered and left r.
pub record Call (ws : List ℕ) (tick n : ℕ) (r : Called) : Type 0 where
  pub κs : Lfts 1
  pub args : World.ArgsD supervision_show.signature κs
  pub exits : Clauses.AtExit (K.ended_of 1 show-kinds.ps show-kinds.r) κs
  pub words_are : args.0.now ≡ ws
  pub tick_is : args.1.0 ≡ tick
  pub number_is : args.1.1.0 ≡ n
  pub left-are : exits.0.now ≡ r.link
  pub ensured : show-reads.Post κs args r.number exits

-- a slice that holds xs, lent to be written
lent : List ℕ → MutBor (List ℕ)
lent xs = record { ref_ptr = (0, 0); ghost_name = 0; now = xs }

-- What the calls give is what `starts` and `calls` say, and nothing else.
pub start-says : {ws : List ℕ} {tick n : ℕ} {ws' : List ℕ} → Started ws tick n ws' → starts ws tick ≡ record { number = n; link = ws' }
start-says k = cc k.ensured

pub started : (ws : List ℕ) (tick : ℕ) {n : ℕ} {ws' : List ℕ} → starts ws tick ≡ record { number = n; link = ws' } → Started ws tick n ws'
unfolding lent
started ws tick {n} {ws'} e =
    record {
      κs = ([], tt);
      args = (lent ws, (tick, tt));
      exits = (lent ws', (tick, tt));
      words_are = refl;
      tick_is = refl;
      left-are = refl;
      ensured = e;
    }

pub says : {ws : List ℕ} {tick n : ℕ} {r : Called} → Call ws tick n r → calls ws tick n ≡ r
says {ws} {tick} {n} {r} k = let e : calls ws tick n ≡ record { number = r.number; link = r.link } = cc k.ensured in e

pub called : (ws : List ℕ) (tick n : ℕ) {r : Called} → calls ws tick n ≡ r → Call ws tick n r
unfolding lent
called ws tick n {r} e =
    record {
      κs = ([], tt);
      args = (lent ws, (tick, (n, tt)));
      exits = (lent r.link, (tick, (n, tt)));
      words_are = refl;
      tick_is = refl;
      number_is = refl;
      left-are = refl;
      ensured = e;
    }

-- ---- there are calls for every list of showings

pub record Run (o : ℕ) (ws : List ℕ) (xs : List Seen) : Type 0 where
  pub numbers : List ℕ
  pub link : List ℕ
  pub made : Shows o ws xs numbers link

pub some-run : (o : ℕ) (ws : List ℕ) (xs : List Seen) → Run o ws xs
some-run o ws [] = record { numbers = []; link = ws; made = none }
some-run o ws (x ∷ xs) =
    let r = calls ws (tick_at o x.time) x.number in
    let k = some-run o r.link xs in
    record { numbers = r.number ∷ k.numbers; link = k.link; made = show x r refl k.made }

-- THE PROMISE, with nothing left open: whatever the tick at the start, for all showings that are often enough there are calls of supervision_start, with
-- any two words, and of supervision_show, and they answer as promised.
pub every-run : (ws₀ : List ℕ) → length ws₀ ≡ 2 → (o s : ℕ) {z : ℕ} (xs : List Seen) → Often s (showings xs) z
    → (ws : List ℕ) × (Started ws₀ (tick_at o s) 0 ws × ((k : Run o ws xs) × Promised s z xs k.numbers))
unfolding starts
every-run ws₀ two o s xs often =
    let ws = words_of (begun (tick_at o s)) in
    let b : starts ws₀ (tick_at o s) ≡ record { number = 0; link = ws } = rw (eq-eqb _ _ two) refl in
    let k = some-run o ws xs in
    (ws, (started ws₀ (tick_at o s) b, (k, promise ws₀ b k.made often)))

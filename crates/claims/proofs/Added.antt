-- What an accepted call does, said of what the contracts cite; the search; and what every run from fresh keeps.
-- Assumes nothing.
use Prim.Native.Nat.{ℕ, ◌+◌, ◌-◌, ◌≤◌, ◌<◌}
use mathlib.Core.{Bool.{Bool, true, false}, List.List, Path.{◌≡◌, refl, sym, ap, subst, ◌∙◌}}
use native.Mathlib.Omega.{arith}
use Rattle.std.specs.Prelude.{Option, Result, Ok, Err, Some}
use Rattle.basics.{proofs.Refusals.number-some, specs.Refusal.{met, and_then, code}}
use Rattle.basics.specs.declared.refused.Refusal.{Refusal, TheVariants.{NotInForm}}
use Rattle.messages.specs.Area.{Area, room_of}
use Rattle.form.specs.Form.{fits}
use Rattle.refusals.specs.Refusals.{Event}
use Rattle.events.specs.{Events.{rule, looked_at}, declared.Done.Done}
use Rattle.panel.specs.{Calls.{next_of, after, told, called}, declared.Panel.Panel}
use Rattle.promise.{proofs.Happenings.{accepted, code_is}, specs.View.code_of}
use Rattle.channels.specs.Channels.{has}
use Rattle.house.{proofs.Searching.{Hits, found, in-flight-between}, specs.NetForm.{net_form, downs}, specs.Places.{channel_of, n_of}}
use Rattle.house.specs.{Search.{live, first_in}, Whole.Whole, declared.InFlight.InFlight, declared.Network.Network}
use Rattle.house.proofs.NetForms as net
use Rattle.steps.proofs.{AtStart.start-t, Networks.{Good, good_of, good-test}}
use Rattle.steps.proofs.Settling.{checked-in-form, checked_refused, not-refused, tried-accepted, step-done}
use Rattle.steps.{proofs.WholeDrain.{drained-out-of-form, drained-deliveries, drained-still}, specs.Drain.drained, specs.Search.sought}
use Rattle.steps.specs.SetUp.{fresh_network}
use Rattle.steps.specs.Steps.{write_trials, read_trials, deliver_trials, lose_trials, checked, write_in, read_in, deliver_in, lose_in, delivered}
use Rattle.steps.specs.declared.{Drained.Drained, Stepped.Stepped}
use Rattle.runs.{proofs.Running.run_holds, specs.Claims.Still, specs.Runs.{Step, did, emptied, does}}
use Rattle.runs.specs.Runs.Step.{write, read, deliver, lose, drain}
use Rattle.runs.specs.Runs as runs
use Rattle.runs.proofs.FromFresh as run
use Rattle.claims.specs.{Acts.Acts, Tried.{Call, answer_of}}

-- ---- an accepted call of a panel is the figure's rule and the look, laid into the area

pub event-acts : (p : Panel) (e : Event) (a : Area) → answer_of (Call.event p e a) ≡ 0 → called p e a ≡ told (looked_at (rule p.tables e)) a
unfolding answer_of called told
event-acts p e a z = ap (λ (d : Done). told d a) (accepted p.tables (room_of a) e (sym (code_is p.tables (room_of a) e) ∙ z))

pub bare-acts : (p : Panel) (e : Event) → answer_of (Call.event_bare p e) ≡ 0 → after p e ≡ next_of (looked_at (rule p.tables e))
unfolding answer_of after
bare-acts p e z = ap next_of (accepted p.tables 107 e (sym (code_is p.tables 107 e) ∙ unfold next_of in z))

-- ---- an accepted step: that it is accepted says that the network is in form

formed : (s : Network) (a : Stepped) → code_of (checked s a).answer ≡ 0 → net_form s ≡ true
formed s a z = by (net_form s) refl
  where
    by : (b : Bool) → net_form s ≡ b → net_form s ≡ true
    by true e = e
    by false e = not-refused NotInForm (subst (λ (x : Stepped). code_of x.answer ≡ 0) (checked_refused s a e) z)

passed : (s : Network) (a : Stepped) → code_of (checked s a).answer ≡ 0 → (checked s a ≡ a) × (code_of a.answer ≡ 0)
passed s a z =
    let e : checked s a ≡ a = checked-in-form s a (formed s a z) in
    (e, ap (λ (x : Stepped). code_of x.answer) (sym e) ∙ z)

drain-formed : (s : Network) → code (drained s).answer ≡ 0 → net_form s ≡ true
drain-formed s z = by (net_form s) refl
  where
    by : (b : Bool) → net_form s ≡ b → net_form s ≡ true
    by true e = e
    by false e = absurd (number-some NotInForm (ap (λ (d : Drained). code d.answer) (sym (drained-out-of-form s e)) ∙ z))

pub acts : (s : Network) → Whole s → (e : Step) → (does s e).refusal ≡ 0 → Acts s e
unfolding does did emptied Acts write_in read_in deliver_in lose_in
acts s w (write v) z = let q = passed s _ z in q.0 ∙ (step-done (write_trials s) s s _ _ q.1).is
acts s w (read i) z = let q = passed s _ z in q.0 ∙ (step-done (read_trials s i) s s _ _ q.1).is
acts s w (deliver k i j) z = let q = passed s _ z in q.0 ∙ (step-done (deliver_trials s k i j) s _ _ _ q.1).is
acts s w (lose i) z = let q = passed s _ z in q.0 ∙ (tried-accepted (lose_trials s i) s _ q.1).is
acts s w drain z =
    let g : Good s = good_of s (drain-formed s z) w in
    record { deliveries = drained-deliveries s g z; still = drained-still s g z }

-- ---- the search

pub search-finds-the-first : (s : Network) (x : InFlight) → sought s ≡ Ok (Some x) → Hits s x
unfolding sought
search-finds-the-first s x e = by (met _) e
  where
    by : (m : Result Unit Refusal) → and_then m (Ok (first_in s)) ≡ Ok (Some x) → Hits s x
    by (Ok u) z = found s x (cc)
    by (Err r) z = absurd (number-some r (ap (λ (a : Result (Option InFlight) Refusal). code a) z))

-- ---- runs

module _ (n t writer v : ℕ) (ok : fits n t writer ≡ true) (es : List Step) where
  abbrev start : Network
  start = fresh_network n t writer v

  abbrev end : Network
  end = runs.after start es

  pub always-in-form : net_form end ≡ true
  always-in-form = good-test end (run.end-holds n t writer v ok es).good

  pub at-most-t-down : downs end ≤ t
  at-most-t-down =
      subst (λ (x : ℕ). downs end ≤ x) ((run_holds start (run.start-holds n t writer v ok) es).went.same.t ∙ start-t n t writer v ok)
      (net.few-down end (run.end-holds n t writer v ok es).good.form)

  pub drain-leaves-still : Still (drained end).network
  drain-leaves-still = run.drain-leaves-still n t writer v ok es

  -- no word on i and j but that they are places
  pub in-flight-accepted :
      (k i j : ℕ) → i < 7 → j < 7 → live end j ≡ true → has (channel_of end i j) k ≡ true → code_of (delivered end k (i + 1) (j + 1)).answer ≡ 0
  in-flight-accepted k i j hi hj u h =
      let b = in-flight-between end (run.end-holds n t writer v ok es).good.form i j k hi hj h in
      let m : n_of end ≡ n = run.end-n n t writer v ok es in
      let x : i + 1 - 1 ≡ i = omega arith in
      let y : j + 1 - 1 ≡ j = omega arith in
      run.accepted-when-delivered n t writer v ok es k (i + 1) (j + 1)
      (record {
        sender-low = omega arith;
        sender-high = omega (arith, b.sender-within, m);
        receiver-low = omega arith;
        receiver-high = omega (arith, b.receiver-within, m);
        apart = λ e. b.apart (omega (arith, e));
      })
      (subst (λ (q : ℕ). live end q ≡ true) (sym y) u)
      (subst (λ (q : ℕ). has (channel_of end q (j + 1 - 1)) k ≡ true) (sym x) (subst (λ (q : ℕ). has (channel_of end i q) k ≡ true) (sym y) h))

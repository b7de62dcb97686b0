-- What a panel's calls come to, for their code and for what is set up by them.
-- Assumes nothing.
use mathlib.Core.{Bool.{true, false}, Path.{◌≡◌, refl, ap, ◌∙◌}}
use Prim.Native.Nat.{ℕ}
use Rattle.std.specs.Prelude.{not, Result, Ok, Err}
use Rattle.basics.{proofs.Refusals.{met-given, met-not, met-none}, specs.Refusal.and_then}
use Rattle.basics.specs.declared.refused.Refusal.{Refusal, TheVariants.{OutOfRange, NoSuchPanel}}
use Rattle.messages.specs.Area.{Area, Laid, laying, room_of}
use Rattle.form.specs.Form.{fits, is_panel, fresh}
use Rattle.refusals.specs.Refusals.{Event}
use Rattle.events.specs.{Events.happens, declared.Done.Done}
use Rattle.panel.specs.{Calls.{Called, panel_of, next_of, after, told, called, nothing, made, set_up_trials}, declared.Next.Next, declared.Panel.Panel}

pub told-as :
    (d : Done) (a : Area) (laid : Laid) → laid ≡ laying d.sends a →
    record { outcome = record { panel = panel_of d.tables; answer = d.answer; count = laid.count }; area = laid.area } ≡ told d a
unfolding told laying
told-as d a laid e =
    ap (λ (l : Laid). record { outcome = record { panel = panel_of d.tables; answer = d.answer; count = l.count }; area = l.area }) e

pub called-as :
    (p : Panel) (e : Event) (a : Area) (room : ℕ) (d : Done) (c : Called) → room ≡ room_of a → d ≡ happens p.tables room e → c ≡ told d a → c ≡ called p e a
unfolding called
called-as p e a room d c r h t = t ∙ ap (λ (x : Done). told x a) (h ∙ ap (λ (n : ℕ). happens p.tables n e) r)

pub after-as : (p : Panel) (e : Event) (d : Done) (q : Next) → d ≡ happens p.tables 107 e → q ≡ next_of d → q ≡ after p e
unfolding after
after-as p e d q h n = n ∙ ap next_of h

-- ---- set-up

pub nothing_is : nothing ≡ panel_of (fresh 0 0 0 0 0)
unfolding nothing
nothing_is = refl

module _ (n t writer number v : ℕ) where
  pub made-unfit : fits n t writer ≡ false → made n t writer number v ≡ Err OutOfRange
  unfolding made set_up_trials
  made-unfit f = ap (λ (m : Result Unit Refusal). and_then m (Ok (panel_of (fresh n t writer number v)))) (met-given _ _ (ap not f))

  module _ (f : fits n t writer ≡ true) where
    pub made-elsewhere : is_panel n number ≡ false → made n t writer number v ≡ Err NoSuchPanel
    unfolding made set_up_trials
    made-elsewhere i = ap (λ (m : Result Unit Refusal). and_then m (Ok (panel_of (fresh n t writer number v)))) (met-not _ _ (ap not f) ∙ met-given _ _ (ap not i))

    pub made-done : is_panel n number ≡ true → made n t writer number v ≡ Ok (panel_of (fresh n t writer number v))
    unfolding made set_up_trials
    made-done i = ap (λ (m : Result Unit Refusal). and_then m (Ok (panel_of (fresh n t writer number v)))) (met-not _ _ (ap not f) ∙ met-not _ _ (ap not i) ∙ met-none)

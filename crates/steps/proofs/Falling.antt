-- The load of a network falls at each accepted delivery.
-- Assumes nothing.
use mathlib.Core.{Logic.◌≢◌, Path.{◌≡◌, sym, subst}}
use Prim.Native.Nat.{ℕ, ◌+◌, ◌-◌, ◌≤◌, ◌<◌}
use native.Mathlib.Omega.{arith}
use Rattle.protocol.proofs.{Falling.load-falls, Loads.{write-comes-falls, write-waits-falls, read-comes-falls, proceed-comes-falls}}
use Rattle.protocol.specs.{Counts.{panel_load, out_load, weight}, World.{View, Out}}
use Rattle.promise.specs.View.{code_of}
use Rattle.channels.proofs.Flying.{has-known}
use Rattle.house.{proofs.Searching.Pair, specs.Places.n_of, specs.declared.Network.Network}
use Rattle.steps.specs.{Moves.{Came, write_comes, write_waits, read_comes, proceed_comes}, Numbers.load_of, Steps.deliver_in}
use Rattle.steps.proofs.{Delivering.{DeliverMoves, deliver-moves}, Keeping.deliver-kept, Networks.{Good, formed-place}}
use Rattle.steps.proofs.Passing.{sender-place, receiver-place, places-apart}

came-falls :
    {n p q k : ℕ} {a b : View} {out : Out} → Came n p q k a out b → p < n → q < n → n ≤ 7 → q ≢ p → b.w p ≤ 200 → ((l : ℕ) → a.w l ≤ a.w p) →
    panel_load b + out_load out < panel_load a + weight k
came-falls {k = k} (write_comes bit c) bp bq seven d room own =
    write-comes-falls c bp bq seven d room (λ l _. own l) k (omega (arith, bit))
came-falls {k = k} (write_waits two bit c) bp bq seven d room own = write-waits-falls (omega arith) c k two
came-falls {k = k} (read_comes kind c) bp bq seven d room own = read-comes-falls (omega arith) c k kind
came-falls {k = k} (proceed_comes kind c) bp bq seven d room own = proceed-comes-falls c k kind

pub deliver-falls : (s : Network) → Good s → (k i j : ℕ) → code_of (deliver_in s k i j).answer ≡ 0 → load_of (deliver_in s k i j).network < load_of s
unfolding load_of
deliver-falls s g k i j ok =
    let m : DeliverMoves s k i j = deliver-moves s g k i j ok in
    let two : Pair (n_of s) i j = m.may.pair in
    let bp : j - 1 < n_of s = receiver-place two in
    let bq : i - 1 < n_of s = sender-place two in
    let seven : n_of s ≤ 7 = g.form.n-high in
    let kept = deliver-kept s g k i j in
    load-falls m.delivers (omega (arith, bp, seven)) (omega (arith, bq, seven)) (places-apart two) (has-known _ k m.may.there)
    (came-falls m.came bp bq seven (places-apart two)
    (formed-place _ kept.good (j - 1) (subst (λ (x : ℕ). j - 1 < x) (sym kept.same.n) bp)).w_top
    (formed-place s g (j - 1) bp).w_below)

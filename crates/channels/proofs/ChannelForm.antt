-- A channel in form, as plain facts: what its tests say, both ways, that no more is in flight than may be, and that form is kept
-- where a message joins and where one is taken.
-- Assumes nothing.
use mathlib.Core.{Bool.{Bool, true, false, not}, Logic.◌↔◌, Path.{◌≡◌, refl, sym, ap, ◌∙◌}}
use Prim.Native.Nat.{ℕ, zero, suc, ◌≤◌, ◌<◌}
use native.Mathlib.{Decide.dec_lt, Omega.arith}
use lib.Dec.{eqb}
use borrow.Author.Tests.{eqb-true, eq-eqb, leb-true, le-leb, not-true}
use Rattle.basics.proofs.{Choices.{clash, ite-false, ite-case, both_left, both_right, both_true}, Ones.one-most}
use Rattle.basics.specs.Choice.{ite, both}
use Rattle.tables.specs.{Places.no_hold, declared.Hold.Hold}
use Rattle.channels.specs.Channels.{by_kind, in_flight, no_channel, room, joined, less, with_write0, with_write1, with_reads, with_proceeds, slot_ok, channel_ok, channel_empty}
use Rattle.channels.specs.declared.Channel.{Channel}
use Rattle.channels.proofs.{ByKind.kind-case, Flying.{cap, none_other, room-read, room-proceed}}

-- ---- one channel

pub slot_ok-iff : (h : Hold) → (slot_ok h ≡ true) ↔ (h.full ≡ false → h.value ≡ 0)
unfolding slot_ok
slot_ok-iff h = (
  λ e f. eqb-true _ _ (sym (ite-false _ _ f) ∙ e),
  λ z. ite-case (λ (b : Bool). b ≡ true) h.full _ _ (λ _. refl) (λ f. eq-eqb _ _ (z f)),
)

pub record ChannelForm (c : Channel) : Type 0 where
  pub write0-zero : c.write0.full ≡ false → c.write0.value ≡ 0
  pub write1-zero : c.write1.full ≡ false → c.write1.value ≡ 0
  pub reads-top : c.reads ≤ 100
  pub proceeds-top : c.proceeds ≤ 100

pub channel_ok-iff : (c : Channel) → (channel_ok c ≡ true) ↔ ChannelForm c
unfolding channel_ok
channel_ok-iff c = (
  λ e. record {
    write0-zero = (slot_ok-iff _).0 (both_left _ _ e);
    write1-zero = (slot_ok-iff _).0 (both_left _ _ (both_right _ _ e));
    reads-top = leb-true _ _ (both_left _ _ (both_right _ _ (both_right _ _ e)));
    proceeds-top = leb-true _ _ (both_right _ _ (both_right _ _ (both_right _ _ e)));
  },
  λ f. both_true ((slot_ok-iff _).1 f.write0-zero)
      (both_true ((slot_ok-iff _).1 f.write1-zero) (both_true (le-leb _ _ f.reads-top) (le-leb _ _ f.proceeds-top))),
)

-- no WRITE of a bit
not_written : (h : Hold) → both (not h.full) (eqb h.value 0) ≡ true → h ≡ no_hold
not_written h e =
    let p : h.full ≡ false = not-true _ (both_left _ _ e) in
    let q : h.value ≡ 0 = eqb-true _ _ (both_right _ _ e) in
    λ i. record { full = p i; value = q i }

all-zero : (c : Channel) → channel_empty c ≡ true → c ≡ no_channel
unfolding channel_empty
all-zero c e =
    let counts = both_right _ _ (both_right _ _ e) in
    let p : c.write0 ≡ no_hold = not_written _ (both_left _ _ e) in
    let q : c.write1 ≡ no_hold = not_written _ (both_left _ _ (both_right _ _ e)) in
    let x : c.reads ≡ 0 = eqb-true _ _ (both_left _ _ counts) in
    let y : c.proceeds ≡ 0 = eqb-true _ _ (both_right _ _ counts) in
    λ i. record { write0 = p i; write1 = q i; reads = x i; proceeds = y i }

pub channel_empty-iff : (c : Channel) → (channel_empty c ≡ true) ↔ (c ≡ no_channel)
unfolding channel_empty both
channel_empty-iff c = (all-zero c, λ e. ap channel_empty e)

pub none-form : ChannelForm no_channel
none-form = record { write0-zero = λ _. refl; write1-zero = λ _. refl; reads-top = omega arith; proceeds-top = omega arith }

-- no more is in flight than may be
pub form-within : (c : Channel) → ChannelForm c → (k : ℕ) → in_flight c k ≤ cap k
unfolding in_flight cap by_kind ite
form-within c f k = by (dec_lt k 4)
  where
    near : (k : ℕ) → k < 4 → in_flight c k ≤ cap k
    near zero h = one-most c.write0.full
    near (suc zero) h = one-most c.write1.full
    near (suc (suc zero)) h = f.reads-top
    near (suc (suc (suc zero))) h = f.proceeds-top
    near (suc (suc (suc (suc k)))) h = absurd (omega arith)

    by : Dec (k < 4) → in_flight c k ≤ cap k
    by (yes h) = near k h
    by (no h) = omega (arith, none_other c k (omega arith))

-- ---- one more joins, and one is taken

module _ (c : Channel) (f : ChannelForm c) where
  write0-form : (h : Hold) → (h.full ≡ false → h.value ≡ 0) → ChannelForm (with_write0 c h)
  write0-form h z = record { write0-zero = z; write1-zero = f.write1-zero; reads-top = f.reads-top; proceeds-top = f.proceeds-top }

  write1-form : (h : Hold) → (h.full ≡ false → h.value ≡ 0) → ChannelForm (with_write1 c h)
  write1-form h z = record { write0-zero = f.write0-zero; write1-zero = z; reads-top = f.reads-top; proceeds-top = f.proceeds-top }

  reads-form : (m : ℕ) → m ≤ 100 → ChannelForm (with_reads c m)
  reads-form m h = record { write0-zero = f.write0-zero; write1-zero = f.write1-zero; reads-top = h; proceeds-top = f.proceeds-top }

  proceeds-form : (m : ℕ) → m ≤ 100 → ChannelForm (with_proceeds c m)
  proceeds-form m h = record { write0-zero = f.write0-zero; write1-zero = f.write1-zero; reads-top = f.reads-top; proceeds-top = h }

  pub joined-form : (k v : ℕ) → ChannelForm (joined c k v)
  unfolding joined
  joined-form k v =
      ite-case ChannelForm (room c k) _ _
      (λ h. kind-case ChannelForm k
      (λ _. write0-form _ (λ e. clash e refl))
      (λ _. write1-form _ (λ e. clash e refl))
      (λ e. reads-form _ (omega (arith, room-read c e h)))
      (λ e. proceeds-form _ (omega (arith, room-proceed c e h)))
      (λ _. f))
      (λ _. f)

  pub less-form : (k : ℕ) → ChannelForm (less c k)
  unfolding less
  less-form k =
      kind-case ChannelForm k
      (λ _. write0-form _ (λ _. refl))
      (λ _. write1-form _ (λ _. refl))
      (λ _. reads-form _ (omega (arith, f.reads-top)))
      (λ _. proceeds-form _ (omega (arith, f.proceeds-top)))
      (λ _. f)

pub less_none : (k : ℕ) → less no_channel k ≡ no_channel
unfolding less
less_none k = kind-case (λ (d : Channel). d ≡ no_channel) k (λ _. refl) (λ _. refl) (λ _. refl) (λ _. refl) (λ _. refl)

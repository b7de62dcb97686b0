-- The promise of a panel, as the panel's calls without a message area tell it: what a network lives on.
-- Assumes nothing.
use mathlib.Core.{Bool.{Bool, true, false}, Path.◌≡◌}
use Prim.Native.Nat.{ℕ, ◌-◌}
use Rattle.messages.specs.Sends.{messages_of}
use Rattle.form.specs.Setting.{own_place}
use Rattle.refusals.specs.Refusals.{Event, right_bit, refusal, Event.{write, read, write_from, read_from, proceed_from}}
use Rattle.events.proofs.Kept.{Good, kept}
use Rattle.panel.specs.{Calls.{next_of, after}, declared.Panel.Panel}
use Rattle.protocol.specs.Promise.{ToPeers, Writes, Reads, WriteComes, WriteWaits, ReadComes, ProceedComes}
use Rattle.promise.specs.{Facts.{SameSetting, AllTo}, View.{view_of, out_of, code_of, Waits}}
use Rattle.promise.proofs.{Receivers.out-peers, Settings.setting_kept}
use Rattle.promise.proofs.Happenings

module _ (p : Panel) (e : Event) where
  -- ---- whatever the event, refused or not

  pub after-code : code_of (after p e).answer ≡ refusal p.tables 107 e
  unfolding after next_of
  after-code = Happenings.code_is p.tables 107 e

  pub after-setting : SameSetting p.tables (after p e).panel.tables
  unfolding after next_of
  after-setting = setting_kept p.tables 107 e

  pub after-waits-kept : Waits p.tables → Waits (after p e).panel.tables
  unfolding after next_of
  after-waits-kept w = Happenings.waits_kept p.tables 107 e w

  module _ (g : Good p.tables) where
    pub after-good : Good (after p e).panel.tables
    unfolding after next_of
    after-good = kept p.tables g 107 e

    pub after-to-peers : AllTo p.tables.n p.tables.number (messages_of (after p e).sends)
    unfolding after next_of
    after-to-peers = Happenings.all-to-peers p.tables g 107 e

    pub after-peers : ToPeers p.tables.n (own_place p.tables) (out_of (after p e).sends)
    after-peers = out-peers p.tables.n p.tables.number g.form.number-low (after p e).sends after-to-peers

-- ---- accepted

module _ (p : Panel) (g : Good p.tables) where
  pub after_write :
      (v : ℕ) → refusal p.tables 107 (write v) ≡ 0 →
      Writes p.tables.n (own_place p.tables) (view_of p.tables) (out_of (after p (write v)).sends) (view_of (after p (write v)).panel.tables)
  unfolding after next_of
  after_write v z = Happenings.write-promise p.tables g 107 v z

  pub after_read :
      refusal p.tables 107 read ≡ 0 →
      Reads p.tables.n (own_place p.tables) (view_of p.tables) (out_of (after p read).sends) (view_of (after p read).panel.tables)
  unfolding after next_of
  after_read z = Happenings.read-promise p.tables g 107 z

  pub after-write-from :
      (j : ℕ) (b : Bool) (v : ℕ) → refusal p.tables 107 (write_from j b v) ≡ 0 → right_bit p.tables (j - 1) b ≡ true →
      WriteComes p.tables.n (own_place p.tables) (j - 1) (view_of p.tables) (out_of (after p (write_from j b v)).sends)
      (view_of (after p (write_from j b v)).panel.tables)
  unfolding after next_of
  after-write-from j b v z r = Happenings.write-from-promise p.tables g 107 j b v z r

  pub after-write-held :
      (j : ℕ) (b : Bool) (v : ℕ) → refusal p.tables 107 (write_from j b v) ≡ 0 → right_bit p.tables (j - 1) b ≡ false →
      WriteWaits (j - 1) (view_of p.tables) (out_of (after p (write_from j b v)).sends) (view_of (after p (write_from j b v)).panel.tables)
  unfolding after next_of
  after-write-held j b v z r = Happenings.write-held-promise p.tables g 107 j b v z r

  pub after-read-from :
      (j : ℕ) → refusal p.tables 107 (read_from j) ≡ 0 →
      ReadComes p.tables.n (own_place p.tables) (j - 1) (view_of p.tables) (out_of (after p (read_from j)).sends)
      (view_of (after p (read_from j)).panel.tables)
  unfolding after next_of
  after-read-from j z = Happenings.read-from-promise p.tables g 107 j z

  pub after-proceed-from :
      (j : ℕ) → refusal p.tables 107 (proceed_from j) ≡ 0 →
      ProceedComes (j - 1) (view_of p.tables) (out_of (after p (proceed_from j)).sends) (view_of (after p (proceed_from j)).panel.tables)
  unfolding after next_of
  after-proceed-from j z = Happenings.proceed-from-promise p.tables g 107 j z

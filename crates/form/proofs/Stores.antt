-- What a table reads after a store: at the place itself, and at another place.
-- Assumes nothing.
use mathlib.Core.{List.List, Logic.◌≢◌, Path.{◌≡◌, ap}}
use Prim.Native.Nat.{ℕ, ◌<◌}
use lib.{ListN.{length, set}, Seq.{get_or-set_same, get_or-set_other}}
use Rattle.tables.specs.{Places.{w_at, r_at, hold_at, line_at, no_write, no_read, no_hold, no_line}, declared.Hold.Hold, declared.Line.Line}
use Rattle.tables.specs.declared.{ReadNo.ReadNo, WriteNo.WriteNo}

pub w-set : (ws : List WriteNo) (k : ℕ) (x : WriteNo) → k < length ws → w_at (set ws k x) k ≡ x.0
w-set ws k x h = ap (λ (y : WriteNo). y.0) (get_or-set_same ws k x no_write h)

pub w-set-ne : (ws : List WriteNo) (k j : ℕ) (x : WriteNo) → j ≢ k → w_at (set ws k x) j ≡ w_at ws j
w-set-ne ws k j x h = ap (λ (y : WriteNo). y.0) (get_or-set_other ws k j x no_write h)

pub r-set : (rs : List ReadNo) (k : ℕ) (x : ReadNo) → k < length rs → r_at (set rs k x) k ≡ x.0
r-set rs k x h = ap (λ (y : ReadNo). y.0) (get_or-set_same rs k x no_read h)

pub r-set-ne : (rs : List ReadNo) (k j : ℕ) (x : ReadNo) → j ≢ k → r_at (set rs k x) j ≡ r_at rs j
r-set-ne rs k j x h = ap (λ (y : ReadNo). y.0) (get_or-set_other rs k j x no_read h)

pub hold-set : (hs : List Hold) (k : ℕ) (x : Hold) → k < length hs → hold_at (set hs k x) k ≡ x
hold-set hs k x h = get_or-set_same hs k x no_hold h

pub hold-set-ne : (hs : List Hold) (k j : ℕ) (x : Hold) → j ≢ k → hold_at (set hs k x) j ≡ hold_at hs j
hold-set-ne hs k j x h = get_or-set_other hs k j x no_hold h

pub line_set : (ls : List Line) (k : ℕ) (x : Line) → k < length ls → line_at (set ls k x) k ≡ x
line_set ls k x h = get_or-set_same ls k x no_line h

pub line-set-ne : (ls : List Line) (k j : ℕ) (x : Line) → j ≢ k → line_at (set ls k x) j ≡ line_at ls j
line-set-ne ls k j x h = get_or-set_other ls k j x no_line h

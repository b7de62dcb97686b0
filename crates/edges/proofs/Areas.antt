-- What the contract of an event says of the slice, place by place: the messages stand in the first places (`message-there`), places
-- behind the last are as they were (`place_kept`), a refusal changes nothing (`refused-unchanged`), and an area of less than 107
-- places is refused 3 by tables in form (`short-refused`). The columns settle the slice (`columns-injective`).
-- Assumes nothing.
use mathlib.Core.{Bool.true, List.{List, [], map}, Logic.{inr, ◌≢◌}, Path.{◌≡◌, refl, sym, ap, ◌∙◌}}
use Prim.Native.Nat.{ℕ, ◌≤◌, ◌<◌}
use native.Mathlib.{Nat.zero-add, Omega.arith}
use lib.{ListN.{length, get_or, length-map, get_or-map}, Seq.ext_get_or}
use Rattle.std.specs.Prelude.{Err}
use Rattle.basics.{proofs.Refusals.{first_stops, met-some, unless-err}, specs.Refusal.number_of}
use Rattle.basics.specs.declared.refused.Refusal.{Refusal, TheVariants.{AreaTooShort}}
use Rattle.messages.proofs.{Laying.{length-laid, laid-message, laid-past}, Messages.messages-of-none}
use Rattle.messages.specs.{Area.{Area, laid, laid_in}, Sends.{Message as Sent, messages_of}}
use Rattle.form.specs.{Form.in_form, declared.Tables.Tables}
use Rattle.refusals.proofs.Refusing.{first-3, write-first, read_first, peer-first}
use Rattle.refusals.specs.Refusals.{Event, peer_trials, write_from_trials, read_from_trials, proceed_from_trials, trials, refusal}
use Rattle.refusals.specs.Refusals.Event.{write, read, write_from, read_from, proceed_from}
use Rattle.events.specs.{Events.{refused_by, happens}, declared.Done.Done}
use Rattle.panel.specs.{Calls.{Called, told, called}, declared.Outcome.Outcome, declared.Panel.Panel}
use Rattle.edges.specs.{Columns.columns, declared.Message.Message}
use Rattle.edges.proofs.Pouring.{room-is}

-- ---- a slice and its columns

-- an empty place, which is what a place behind the end reads
abbrev pub none : Message
none = record { to = 0; kind = 0; value = 0 }

place_of : (ms : List Message) (i : ℕ)
    → record { to = get_or (columns ms).receivers i 0; kind = get_or (columns ms).kinds i 0; value = get_or (columns ms).values i 0 } ≡ get_or ms i none
unfolding columns
place_of ms i =
    λ n.
    record {
      to = get_or-map (λ (m : Message). m.to) ms i none n;
      kind = get_or-map (λ (m : Message). m.kind) ms i none n;
      value = get_or-map (λ (m : Message). m.value) ms i none n;
    }

-- the message at a place of an area
abbrev place_in : Area → ℕ → Message
place_in a i = record { to = get_or a.receivers i 0; kind = get_or a.kinds i 0; value = get_or a.values i 0 }

length-columns : (ms : List Message) → length (columns ms).receivers ≡ length ms
unfolding columns
length-columns ms = length-map ms _

pub columns-long : (ms ns : List Message) (a : Area) → columns ms ≡ a → length a.receivers ≡ length (columns ns).receivers → length ms ≡ length ns
columns-long ms ns a e l = sym (length-columns ms) ∙ ap (λ (x : Area). length x.receivers) e ∙ l ∙ length-columns ns

-- the columns settle the slice
pub columns-injective : (ms ns : List Message) → columns ms ≡ columns ns → ms ≡ ns
columns-injective ms ns e =
    ext_get_or none ms ns (columns-long ms ns (columns ns) e refl) (λ i _. sym (place_of ms i) ∙ ap (λ (a : Area). place_in a i) e ∙ place_of ns i)

-- ---- what an event leaves

-- a message that is sent, as it stands in the slice
abbrev pub standing : Sent → Message
standing m = record { to = m.to; kind = m.kind; value = m.value }

abbrev unsent : Sent
unsent = record { to = 0; kind = 0; value = 0 }

three-not-none : ◌≢◌ {A = ℕ} 3 0
three-not-none z = omega arith

-- whatever the event, 3 is tried right after 2
short : (t : Tables) (room : ℕ) (e : Event) → in_form t ≡ true → room < 107 → refusal t room e ≡ 3
unfolding refusal trials write_from_trials read_from_trials proceed_from_trials
short t room (write v) f l = sym (write-first t room 3 (first-3 t room f l) three-not-none)
short t room read f l = sym (read_first t room 3 (first-3 t room f l) three-not-none)
short t room (write_from j b v) f l = first_stops (peer_trials t room j) _ 3 three-not-none (sym (peer-first t room j 3 (first-3 t room f l) three-not-none))
short t room (read_from j) f l = first_stops (peer_trials t room j) _ 3 three-not-none (sym (peer-first t room j 3 (first-3 t room f l) three-not-none))
short t room (proceed_from j) f l = first_stops (peer_trials t room j) _ 3 three-not-none (sym (peer-first t room j 3 (first-3 t room f l) three-not-none))

module _ (p : Panel) (e : Event) (ys zs : List Message) (o : Outcome) (h : record { outcome = o; area = columns zs } ≡ called p e (columns ys)) where
  -- what the event comes to, with as much room as the slice has
  abbrev done : Done
  done = happens p.tables (length ys) e

  called_is : called p e (columns ys) ≡ told done (columns ys)
  unfolding called
  called_is = ap (λ (n : ℕ). told (happens p.tables n e) (columns ys)) (room-is ys)

  area_is : columns zs ≡ laid_in 0 (messages_of done.sends) (columns ys)
  unfolding told
  area_is = ap (λ (c : Called). c.area) (h ∙ called_is)

  pub outcome-is : o ≡ record { panel = record { tables = done.tables }; answer = done.answer; count = length (messages_of done.sends) }
  unfolding told
  outcome-is = ap (λ (c : Called). c.outcome) (h ∙ called_is)

  pub length-kept : length zs ≡ length ys
  unfolding laid_in
  length-kept = columns-long zs ys _ area_is (length-laid 0 _ _)

  place_is : (i : ℕ) → get_or zs i none ≡ place_in (laid_in 0 (messages_of done.sends) (columns ys)) i
  place_is i = sym (place_of zs i) ∙ ap (λ (a : Area). place_in a i) area_is

  -- the messages, in their order, in the first places
  pub message-there : (i : ℕ) → i < length (messages_of done.sends) → i < length ys
      → get_or zs i none ≡ standing (get_or (messages_of done.sends) i unsent)
  message-there i sent there =
      place_is i
      ∙ ap (λ (k : ℕ). place_in (laid_in 0 (messages_of done.sends) (columns ys)) k) (sym (zero-add i))
      ∙ ap standing (laid-message 0 (messages_of done.sends) (columns ys) i sent (omega (arith, room-is ys)))

  past : (f : Sent → ℕ) (area : List ℕ) (i : ℕ) → length (messages_of done.sends) ≤ i
      → get_or (laid 0 (map f (messages_of done.sends)) area) i 0 ≡ get_or area i 0
  past f area i l = laid-past 0 (map f (messages_of done.sends)) area i (inr (omega (arith, length-map (messages_of done.sends) f)))

  -- "places after the last message are unchanged"
  pub place_kept : (i : ℕ) → length (messages_of done.sends) ≤ i → get_or zs i none ≡ get_or ys i none
  unfolding laid_in
  place_kept i l =
      place_is i
      ∙ (λ n.
      record {
        to = past (λ (m : Sent). m.to) (columns ys).receivers i l n;
        kind = past (λ (m : Sent). m.kind) (columns ys).kinds i l n;
        value = past (λ (m : Sent). m.value) (columns ys).values i l n;
      })
      ∙ place_of ys i

  -- ---- a refusal

  -- refused by r
  pub record Unchanged (r : Refusal) : Type 0 where
    pub panel-kept : o.panel ≡ p
    pub answered : o.answer ≡ Err r
    pub none-sent : o.count ≡ 0
    pub area-kept : zs ≡ ys

  refused-done : (r : Refusal) → refusal p.tables (length ys) e ≡ number_of r → done ≡ refused_by p.tables r
  unfolding happens refusal
  refused-done r n = unless-err _ _ (met-some (trials p.tables (length ys) e) r n)

  -- "A refusal gives its number only and alters no table, channel or buffer"
  pub refused-unchanged : (r : Refusal) → refusal p.tables (length ys) e ≡ number_of r → Unchanged r
  unfolding refused_by
  refused-unchanged r n =
      record {
        panel-kept = ap (λ (x : Outcome). x.panel) outcome-is ∙ ap (λ (d : Done). record { tables = d.tables }) by-refusal;
        answered = ap (λ (x : Outcome). x.answer) outcome-is ∙ ap (λ (d : Done). d.answer) by-refusal;
        none-sent = ap (λ (x : Outcome). x.count) outcome-is ∙ ap length nothing-sent;
        area-kept = ext_get_or none zs ys length-kept (λ i _. place_kept i (omega (arith, ap length nothing-sent)));
      }
    where
      by-refusal : done ≡ refused_by p.tables r
      by-refusal = refused-done r n

      nothing-sent : messages_of done.sends ≡ []
      nothing-sent = ap (λ (d : Done). messages_of d.sends) by-refusal ∙ messages-of-none

  -- "message area under 107" is refused 3, by tables in form
  pub short-refused : in_form p.tables ≡ true → length ys < 107 → Unchanged AreaTooShort
  short-refused f l = refused-unchanged AreaTooShort (short p.tables (length ys) e f l)

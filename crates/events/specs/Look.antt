-- "After every accepted event the operation is looked at": lines 3 and 4, 7 to 10.
-- Assumes nothing.
use Rattle.std.specs.Prelude.{Some, None}
use Rattle.basics.specs.Choice.{ite}
use Rattle.tables.specs.{Marks.{has_w, reaches_w, has_r, enough}, declared.WriteNo.WriteNo}
use Rattle.form.specs.{Setting.{own_w, own_r, set_operation}, declared.Operation.Operation}
use Rattle.form.specs.declared.{Operation.TheVariants.{Idle, Writing, FirstWait, SecondWait}, Tables.Tables}
use Rattle.events.specs.{Rules.value_of, declared.Finished.TheVariants.{Wrote, Gave}, declared.Looked.Looked}

-- line 3: "Writing ends when at least n−t panels j have w[j] = w[i]"
unfoldable pub look_writing : Tables → Looked
look_writing p =
    ite (enough p.n p.t (has_w p.w (own_w p)))
    (record { tables = set_operation p Idle; finished = Some (Wrote (record { 0 = own_w p })) })
    (record { tables = p; finished = None })

-- lines 9 and 10: "The second wait .. ends when at least n−t have w[j] ≥ sn; the read gives value sn"
unfoldable pub look_second : Tables → WriteNo → Looked
look_second p sn =
    ite (enough p.n p.t (reaches_w p.w sn.0))
    (record { tables = set_operation p Idle; finished = Some (Gave sn (value_of p sn.0)) })
    (record { tables = set_operation p (SecondWait sn); finished = None })

-- lines 7 and 8: "The first wait ends when at least n−t have r[j] = r[i]; then sn = w[i]", and the second wait "may end in the same event"
unfoldable pub look_first : Tables → Looked
look_first p =
    ite (enough p.n p.t (has_r p.r (own_r p)))
    (look_second p (record { 0 = own_w p }))
    (record { tables = p; finished = None })

unfoldable pub look_as : Operation → Tables → Looked
look_as Idle p = record { tables = p; finished = None }
look_as Writing p = look_writing p
look_as FirstWait p = look_first p
look_as (SecondWait sn) p = look_second p sn

unfoldable pub look : Tables → Looked
look p = look_as p.operation p

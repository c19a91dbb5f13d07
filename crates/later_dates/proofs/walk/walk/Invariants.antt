use Rattle.std.proofs.Common.{◌≡◌}
use Rattle.later_dates.proofs.Laws.{Walked}
use Rattle.later_dates.proofs.walk.walk.Given as goal

abbrev pub invariant-loop-d : goal.invariant-loop-d
invariant-loop-d g l =
    (g.R.Rows.fit l.settings.bytes.now l.rows) × (g.R.Rows.parts l.rows ≡ g.R.Rows.parts l.initial.rows)
    × Walked g.R.Rows.place l.settings.bytes.now l.day l.first l.moved l.initial.inherited (g.R.Rows.published l.initial.rows) l.inherited (g.R.Rows.published l.rows) l.total l.d

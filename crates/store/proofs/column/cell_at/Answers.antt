-- `cell_at` meets its contract: the places of a date's cells follow each other.
use Rattle.std.proofs.Common.{ap, ◌∙◌, arith, get_or}
use Rattle.ledger.specs.Store.{cell_of_entry}
use Rattle.store.proofs.ColumnLaws.{next_place, places_within}
use Rattle.store.proofs.column.cell_at.Goals as goal

pub overflow_add-first_cell : goal.overflow_add-first_cell
overflow_add-first_cell c = omega (arith, places_within c.requires.0, c.requires.1, c.first_cell.ensures)

pub entry_at-requires : goal.entry_at-requires
entry_at-requires c = omega (arith, places_within c.requires.0, c.requires.1, c.first_cell.ensures)

pub returns : goal.returns
unfolding cell_of_entry
returns c =
    let a = c.args in
    record {
      is =
          c.cell_of_entry.ensures
          ∙ ap cell_of_entry (c.entry_at.ensures ∙ ap (λ i. get_or a.cells.now i 0) (next_place a.column a.date _ a.k c.first_cell.ensures));
      small = omega (arith, ap (λ x. x.value) c.cell_of_entry.ensures);
    }

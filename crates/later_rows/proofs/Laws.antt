-- What is carried from a part of the cells, said of the cells.
use Rattle.std.proofs.Common.{◌≡◌, ℕ, ◌+◌, ◌≤◌, List, length, get_or, take, drop, ap, ◌∙◌}
use Rattle.ledger.specs.Calls.{carried_entry}
use Rattle.ledger.specs.Table.{filling}
use Rattle.ledger.proofs.Lists.{part_length, part_at, tabulate_ext}

pub carried_part : (cells inherited inherited' : List ℕ) (at w : ℕ) → at + w ≤ length cells →
    inherited' ≡ filling (length (take w (drop at cells))) (λ k. carried_entry (get_or (take w (drop at cells)) k 0)) inherited →
    inherited' ≡ filling w (λ k. carried_entry (get_or cells (at + k) 0)) inherited
unfolding filling
carried_part cells inherited inherited' at w fits is =
    is ∙ rw (part_length cells at w fits, tabulate_ext w (λ k. carried_entry (get_or (take w (drop at cells)) k 0)) (λ k. carried_entry (get_or cells (at + k) 0)) (λ k l. ap carried_entry (part_at cells at w k l)))

-- `category_byte` meets its contract: the records start behind the header.
use Rattle.std.proofs.Common.{◌+◌, ◌*◌, sym, ◌∙◌, get_or-drop}
use Rattle.ledger.specs.Sizes.{header_length}
use Rattle.settings.proofs.opened.Settings.category_byte.Goals as goal

pub returns : goal.returns
returns c =
    let a = c.args in
    record {
      is = c.byte_at.ensures.is ∙ sym (get_or-drop header_length a.self.bytes.now (8 * a.category + a.k) 0);
      small = c.byte_at.ensures.small;
    }

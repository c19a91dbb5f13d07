-- The window that is read off the settings.
use Rattle.ledger.specs.Method.{Window}
use Rattle.settings.specs.declared.header.Window as declared

abbrev pub window_meant : declared.Window → Window
window_meant a = record { start = a.start; end = a.end }

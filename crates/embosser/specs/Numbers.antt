-- The number of 'Embosser files' that documents 01 and 02 have nowhere else. The line feed is that of 'Collapsing the text'.
use Rattle.std.specs.Prelude.{ℕ}

-- a page ends in form feed
abbrev pub form_feed : ℕ
form_feed = 12

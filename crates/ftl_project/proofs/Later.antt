-- Files that are read after something that changes none.
use Rattle.std.proofs.Common.{◌≡◌, ◌∙◌, refl}
use Rattle.ftl_files.specs.Files.{State}
use Rattle.ftl_project.specs.Reading.{AreRead, AreReadLater, Unread}

-- at once
pub read_now : (before after : State) (unread : Unread) → AreRead before after unread → AreReadLater before after unread
read_now before after unread read = record { middle = before; kept = refl; read = read }

-- or still later
pub read_later : (first before after : State) (unread : Unread) → before.contents ≡ first.contents → AreReadLater before after unread → AreReadLater first after unread
read_later first before after unread kept later = record { middle = later.middle; kept = later.kept ∙ kept; read = later.read }

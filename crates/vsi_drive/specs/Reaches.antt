-- The two setters of globals.
use Rattle.vsi_drive.specs.declared.settings.Reach.{Reach}
use Rattle.vsi_drive.specs.declared.settings.Reach.TheVariants.{UpTo, All}
use Rattle.vsi_drive.specs.Control.{control}
use Rattle.vsi_drive.specs.Settings.{Settable, at_or_below, any_of}

-- The globals that a controller's class, or the user who starts a run, may set.
abbrev pub settable : Reach → Settable
settable (UpTo c) = at_or_below (control c.now)
settable (All image) = any_of image.now

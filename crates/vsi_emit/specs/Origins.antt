-- The comment that emitted C begins with.
use Rattle.std.specs.Prelude.{ℕ, List, [], ◌++◌, Option, Some, None, codes, take}
use Rattle.std.specs.Borrow.{Bor}
use Rattle.hex.specs.Hex.{encode_lower}
use Rattle.sha2.specs.Sha256.{sha256}
use Rattle.vsi_emit.specs.declared.emit.Build.{Build}
use Rattle.vsi_emit.specs.declared.emit.Build.TheVariants.{Proved, Unproved}
use Rattle.vsi_emit.specs.declared.emit.Origin.{Origin}
use Rattle.vsi_emit.specs.declared.emit.TheConstants.{LICENCE}

-- The part of the comment that says whether the program was proved.
abbrev pub build_text : Build → List ℕ
build_text Proved = codes "a program that was proved"
build_text Unproved = codes "a build for tests, of which nothing was proved"

-- The line with the version and the build of the program that wrote the file.
abbrev pub program_line : List ℕ → Build → List ℕ
program_line version build = codes "/* Written by vsi " ++ version ++ codes ", " ++ build_text build ++ codes ".\n"

-- The line with the SHA-256 of a file of this kind, in hexadecimal.
abbrev pub sum_line : List ℕ → List ℕ → List ℕ
sum_line kind bytes = codes "   SHA-256 of the " ++ kind ++ codes ": " ++ encode_lower (sha256 bytes) ++ codes "\n"

-- The line with the SHA-256 of the lattice, if there is one.
abbrev pub lattice_line : Option (Bor (List ℕ)) → List ℕ
lattice_line None = []
lattice_line (Some bytes) = sum_line (codes "lattice") bytes.now

-- The comment: the program, the image, the lattice if there is one, and the licence.
unfoldable pub origin_text : Origin → List ℕ
origin_text o =
    program_line o.version.now o.build ++ sum_line (codes "image") o.image.now ++ lattice_line o.lattice ++ LICENCE.now

-- The mark of an image: the first eight digits of its SHA-256.
abbrev pub mark_of : List ℕ → List ℕ
mark_of image = encode_lower (take 4 (sha256 image))

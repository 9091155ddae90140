-- The output of each subcommand that ends well, given the contents of its files.
use Rattle.std.specs.Prelude.{◌≡◌, ◌≤◌, ℕ, ◌++◌, ◌∷◌, ℤ, Bool, true, false, List, [], Option, Some, None, Ok, codes, decimal, if◌then◌else◌, IsSomeAnd, IfSome, option_map}
use Rattle.std.specs.Borrow.{Bor}
use Rattle.std.specs.Global.{Vec}
use Rattle.std.specs.Io.KnownBytes.{Appends}
use Rattle.vsi_lattice.specs.LatticeView.{class_named, order}
use Rattle.vsi_lattice.specs.declared.lattice.Lattice.{Lattice}
use Rattle.vsi_types.specs.declared.rules.Profile.{Profile}
use Rattle.vsi_types.specs.declared.rules.Profile.TheVariants.{Base, Strict}
use Rattle.vsi_image.specs.declared.instr.Image.{Image}
use Rattle.vsi_image.specs.Fields.{globals}
use Rattle.vsi_emit.specs.declared.emit.Build.{Build}
use Rattle.vsi_emit.specs.declared.emit.Build.TheVariants.{Proved}
use Rattle.vsi_emit.specs.declared.emit.Origin.{Origin}
use Rattle.vsi_emit.specs.Bounded.{IsEmittedBounded}
use Rattle.vsi_emit.specs.BoundedWriting.{bounded_header_text}
use Rattle.vsi_emit.specs.Emitted.{IsEmitted}
use Rattle.vsi_emit.specs.Writing.{header_text}
use Rattle.vsi_store.specs.declared.comparing.Comparison as found
use Rattle.vsi_compiler.specs.Observation.{EndsAlike, IsNoninterfering}
use Rattle.vsi_compiler.specs.Readable.{HasProgram}
use Rattle.vsi_steady.specs.Steady.{IsSteady}
use Rattle.vsi_drive.specs.Boundary.{Boundary}
use Rattle.vsi_drive.specs.BoundaryFaults.{boundary_fault}
use Rattle.vsi_drive.specs.Control.{controlled}
use Rattle.vsi_drive.specs.Running.{RunsApart}
use Rattle.vsi_documents.specs.Bounds.{IsBoundJson}
use Rattle.vsi_documents.specs.Comparisons.{IsComparisonJson}
use Rattle.vsi_documents.specs.Leaks.{TellsSearch}
use Rattle.vsi_leak.specs.declared.whole.Wanted.{Wanted}
use Rattle.vsi_leak.specs.Leaks.{most_pairs}
use Rattle.vsi_audit.specs.Standing.{HasKnownClasses}
use Rattle.vsi_audit.specs.Text.{IsSourceText}
use Rattle.vsi_store.specs.Evidence.{Filed, conformity_text, evidence_text}
use Rattle.vsi_store.specs.declared.reader.AuditProfile.{AuditProfile}
use Rattle.vsi_store.specs.declared.reader.AuditProfile.TheVariants as by
use Rattle.vsi_report.specs.FlowsGraph.{IsFlowsGraph, IsPolicyGraph}
use Rattle.vsi_report.specs.Graph.{IsLatticeGraph}
use Rattle.vsi_report.specs.Page.{HasPanel}
use Rattle.vsi_report.specs.Verdict.{HasVerdict}
use Rattle.vsi_conform.specs.Conforms.{Conforms, IsUnbounded, Tells as TellsPoints}
use Rattle.vsi_conform.specs.Conformity.{Said, conforms as is_well}
use Rattle.vsi_conform.specs.Lines.{AreTextRows}
use Rattle.vsi_conform.specs.Rows.{Row}
use Rattle.vsi_conform.specs.Points.{is_conforming}
use Rattle.vsi_conform.specs.Totals.{total_of}
use Rattle.vsi_conform.specs.declared.interface.Answer.{Answer}
use Rattle.vsi_conform.specs.declared.reader.InterfaceFile.{InterfaceFile}
use Rattle.vsi_conform.specs.declared.interface.Interface.{Interface}
use Rattle.vsi_conform.specs.declared.interface.Judgement.{Judgement}
use Rattle.vsi_conform.specs.Checking.{TellsAnswer}
use Rattle.vsi_answers.specs.Bounds.{IsBound, TellsBound}
use Rattle.vsi_answers.specs.Judged.{AreImage}
use Rattle.vsi_answers.specs.Requests.{BuildsTo, ChecksSteadyTo, ChecksTo, ClassesTo, ComparesTo, FlowsTo, ListsTo, ViewsTo, WalksTo}
use Rattle.vsi_answers.specs.declared.bounds.BoundAnswer.{BoundAnswer}
use Rattle.vsi_arguments.specs.declared.request.Audit.{Audit}
use Rattle.vsi_arguments.specs.declared.request.Bounding.{Bounding}
use Rattle.vsi_arguments.specs.declared.request.Comparison.{Comparison}
use Rattle.vsi_arguments.specs.declared.request.Compilation.{Compilation}
use Rattle.vsi_arguments.specs.declared.request.Conformance.{Conformance}
use Rattle.vsi_arguments.specs.declared.request.Document.{Document}
use Rattle.vsi_arguments.specs.declared.request.Document.TheVariants as document
use Rattle.vsi_arguments.specs.declared.request.Drawing.{Drawing}
use Rattle.vsi_arguments.specs.declared.request.Driving.{Driving}
use Rattle.vsi_arguments.specs.declared.request.Emission.{Emission}
use Rattle.vsi_arguments.specs.declared.request.Execution.{Execution}
use Rattle.vsi_arguments.specs.declared.request.Judging.{Judging}
use Rattle.vsi_arguments.specs.declared.request.Mending.{Mending}
use Rattle.vsi_arguments.specs.declared.request.InitialStore.{InitialStore}
use Rattle.vsi_arguments.specs.declared.request.Search.{Search}
use Rattle.vsi_arguments.specs.declared.request.Request.{Request}
use Rattle.vsi_arguments.specs.declared.request.Request.TheVariants as request
use Rattle.vsi_subject.specs.Admitted.{IsAdmitted}
use Rattle.vsi_subject.specs.Documents.{AuditsDocument, ListsJson, judgement_of, RunsJson, ToldClassesJson, ToldFlowsJson, ToldSarif}
use Rattle.vsi_subject.specs.Driven.{DrivesInput}
use Rattle.vsi_subject.specs.Filed.{IsFiledBound, IsFollowed, IsJudged, filed_profile, lattice_file, policy_bytes}
use Rattle.vsi_subject.specs.Holding.{Delivers, Holding, IsImageAt, IsLatticeAt, IsReadAt}
use Rattle.vsi_subject.specs.Interfaces.{IsAskedAt, IsPolicyAt}
use Rattle.vsi_subject.specs.Laying.{ChecksLayout, PerformsLayout, ToldCanonical}
use Rattle.vsi_subject.specs.Naming.{function_name}
use Rattle.vsi_subject.specs.Raises.{ToldMended, ToldMendedJson}
use Rattle.vsi_subject.specs.Reached.{AreReleasedIn, IsTried, written_as}
use Rattle.vsi_subject.specs.Seeing.{SeesFiles}
use Rattle.vsi_subject.specs.Visible.{ShowsFiles}
use Rattle.vsi_subject.specs.Served.{Serves}
use Rattle.vsi_subject.specs.Shaping.{ShapedText}
use Rattle.vsi_subject.specs.Steering.{IsSteered}
use Rattle.vsi_subject.specs.Supplied.{JudgesSupplied, begins_image}
use Rattle.vsi_subject.specs.Tried.{TriesFile}
use Rattle.vsi_subject.specs.Beginning.{IsBegun}
use Rattle.vsi_subject.specs.Files.{BeginsAt, IsBudgetOf, IsStoredAt, LooksAt, LooksFor, OfFile, OfFiles, Writes, shown}
use Rattle.vsi_subject.specs.State.{state_text}
use Rattle.vsi_subject.specs.Stepping.{ComparesSteps, IsMonitored, IsStepped, OfStepFiles, rule_of}
use Rattle.vsi_subject.specs.Projects.{ProjectsFiles}
use Rattle.vsi_subject.specs.Surveys.{SurveysFiles}
use Rattle.vsi_subject.specs.Viewing.{ViewsWithin}
use Rattle.vsi_subject.specs.Works.{Drives, Lays, Lists, Puts, Replies, Runs, Talks, Work, place_of, work_of}

-- ---- the output.

-- The profile that judges.
abbrev pub profile_of : Bool → Profile
profile_of is_strict = if is_strict then Strict else Base

-- `accepted`, for an accepted text, whose image is also steady with `--steady`.
abbrev pub ToldAccepted : Bool → Bool → Lattice → List ℕ → Vec ℕ → Type 0
ToldAccepted true is_strict l source text = ChecksSteadyTo l source (Ok text)
ToldAccepted false is_strict l source text = ChecksTo l (profile_of is_strict) source (Ok text)

-- The line of JSON for a text that is accepted or refused.
abbrev pub ToldJson : Judgement → Bool → Lattice → List ℕ → Vec ℕ → Type 0
ToldJson j accepted l source text = TellsAnswer l j source accepted text.items

-- The lines of the classes of an accepted text.
abbrev pub ToldClasses : Bool → Lattice → List ℕ → Vec ℕ → Type 0
ToldClasses is_strict l source text = ClassesTo l (profile_of is_strict) source (Ok text)

-- The table of the flows of a text, and with `--walks` a walk below each pair.
abbrev pub ToldFlows : Bool → Bool → Lattice → List ℕ → Vec ℕ → Type 0
ToldFlows true is_strict l source text = WalksTo l (profile_of is_strict) source (Ok text)
ToldFlows false is_strict l source text = FlowsTo l (profile_of is_strict) source (Ok text)

-- The bytes of the image of an accepted text.
abbrev pub ToldImage : Bool → Lattice → List ℕ → Vec ℕ → Type 0
ToldImage is_strict l source bytes = BuildsTo l (profile_of is_strict) source (Ok bytes)

-- The listing of an image.
abbrev pub ToldListing : List ℕ → Vec ℕ → Type 0
ToldListing bytes text = ListsTo bytes (Ok text)

-- A page that first shows the verdict of the profile, and has a panel that shows the source text.
pub record ToldPage (is_strict : Bool) (l : Lattice) (source : List ℕ) (page : Vec ℕ) : Type 0 where
  pub panel : HasPanel page.items source
  pub verdict : HasVerdict l (profile_of is_strict) source page.items

-- A run that halts: its trace, if it is traced, and the text of its store.
pub record RunsFiles (holds : Holding) (e : Execution) (o : InitialStore) (traced : Bool) (trace text : List ℕ)
    : Type 0 where
  pub image : Image
  pub words : List ℤ
  pub begins : BeginsAt holds e o image words
  pub budget : ℕ
  pub within : IsBudgetOf e.budget image budget
  pub ran : RunsApart traced image words budget (Some text) trace

-- The lines of the final store of a halting run that a class sees.
pub record ViewsFiles (holds : Holding) (path class : List ℕ) (e : Execution) (o : InitialStore) (text : Vec ℕ)
    : Type 0 where
  pub lattice : Lattice
  pub viewer : ℕ
  pub looks : LooksAt holds path class lattice viewer
  pub image : Image
  pub words : List ℤ
  pub begins : BeginsAt holds e o image words
  pub budget : ℕ
  pub within : IsBudgetOf e.budget image budget
  pub views : ViewsTo lattice viewer image words budget (Ok text)

-- The files of a comparison have this lattice and its class, this image and these words of two store files. The budget
-- is enough or `--unbounded` is given.
pub record AreCompared (holds : Holding) (c : Comparison) (l : Lattice) (viewer : ℕ) (im : Image)
    (first second : List ℤ) (budget : ℕ) : Type 0 where
  pub looks : LooksAt holds c.lattice.now c.class.now l viewer
  pub held : IsImageAt holds c.image.now im
  pub from_first : IsStoredAt holds (Some c.stores.0) im first
  pub from_second : IsStoredAt holds (Some c.stores.1) im second
  pub within : IsBudgetOf c.budget im budget
  pub admitted : IsAdmitted c.is_unbounded l im budget

-- This is so of the files of a comparison.
pub record OfCompared (holds : Holding) (c : Comparison)
    (So : Lattice → ℕ → Image → List ℤ → List ℤ → ℕ → Type 0) : Type 0 where
  pub lattice : Lattice
  pub viewer : ℕ
  pub image : Image
  pub first : List ℤ
  pub second : List ℤ
  pub budget : ℕ
  pub read : AreCompared holds c lattice viewer image first second budget
  pub is : So lattice viewer image first second budget

-- The comparison that a class makes of two runs, as lines or as a line of JSON: it sees the same of both, or not.
abbrev pub ToldComparison : Bool → Lattice → ℕ → Image → List ℤ → List ℤ → ℕ → Bool → Vec ℕ → Type 0
ToldComparison true l viewer im first second budget same text =
    IsComparisonJson l viewer im first second budget same text.items
ToldComparison false l viewer im first second budget same text =
    (told : found.Comparison) × ComparesTo l viewer im first second budget (Ok told) × (told.is_same ≡ same)
    × (told.text ≡ text)

-- The same of the files of a comparison.
abbrev pub TellsComparison : Bool → Holding → Comparison → Bool → Vec ℕ → Type 0
TellsComparison is_json holds c same text =
    OfCompared holds c
    (λ l viewer im first second budget. ToldComparison is_json l viewer im first second budget same text)

-- The text of the image of a file: the canonical text of a program whose commands are those of the image's code.
pub record SourceOfFile (holds : Holding) (path : List ℕ) (text : Vec ℕ) : Type 0 where
  pub image : Image
  pub held : IsImageAt holds path image
  pub is : IsSourceText image text.items

-- An image is noninterfering, and its runs end alike where the strict profile judges it.
pub record IsAudited (P : Profile) (l : Lattice) (image : Image) : Type 0 where
  pub classes : HasKnownClasses (class_named l) image
  pub noninterfering : IsNoninterfering (class_named l) (order l) image
  pub endings : P ≡ Strict → EndsAlike (class_named l) (order l) image

-- The judgement of an audit: with `--steady` that the image is steady.
abbrev pub Passes : Bool → Bool → Lattice → Image → Type 0
Passes true is_strict l image = IsSteady (class_named l) (order l) image
Passes false is_strict l image = IsAudited (profile_of is_strict) l image

-- The image of a file passes its audit.
pub record AuditsFiles (holds : Holding) (a : Audit) : Type 0 where
  pub lattice : Lattice
  pub declared : IsLatticeAt holds a.lattice.now lattice
  pub image : Image
  pub held : IsImageAt holds a.image.now image
  pub passes : Passes a.is_steady a.is_strict lattice image

-- The version of the program.
abbrev pub program_version : List ℕ
program_version = codes "0.1.0"

-- How the program was built.
abbrev pub program_build : Build
program_build = Proved

-- How an audit judges.
abbrev pub audit_profile : Audit → AuditProfile
audit_profile a =
    if a.is_steady then by.Steady else if a.is_strict then by.Strict else by.Base

-- The lines about the files of an audit, if evidence is requested.
abbrev pub filed_text : Audit → List ℕ → List ℕ → List ℕ
filed_text a lattice image =
    if a.has_evidence
    then evidence_text program_version (audit_profile a) ((a.lattice.now, lattice) ∷ (a.image.now, image) ∷ []) else []

-- The output of an audit that accepts an image: `accepted`, and the evidence for the bytes that were read.
pub record AuditsTo (holds : Holding) (a : Audit) (text : Vec ℕ) : Type 0 where
  pub audits : AuditsFiles holds a
  pub is : text.items ≡ codes "accepted\n" ++ filed_text a audits.declared.policy audits.held.bytes

-- The graph of the flows of a source text under a lattice, alone or beside that of the lattice.
abbrev pub GraphOf : Bool → Profile → Lattice → List ℕ → List ℕ → Type 0
GraphOf true P l source graph = IsFlowsGraph l P source graph
GraphOf false P l source graph = IsPolicyGraph l P source graph

-- The graph of a lattice, or with a source text that of its flows.
abbrev pub DrawsGraph : Holding → Option (Bor (List ℕ)) → Bool → Bool → Lattice → List ℕ → Type 0
DrawsGraph holds None is_strict is_alone l graph = IsLatticeGraph l graph
DrawsGraph holds (Some path) is_strict is_alone l graph =
    (source : List ℕ) × IsReadAt holds path.now source × GraphOf is_alone (profile_of is_strict) l source graph

-- The graph of a lattice file, or with a source text that of its flows.
pub record DrawsFiles (holds : Holding) (d : Drawing) (text : Vec ℕ) : Type 0 where
  pub lattice : Lattice
  pub declared : IsLatticeAt holds d.lattice.now lattice
  pub graph : DrawsGraph holds d.source d.is_strict d.is_alone lattice text.items

-- A search at this class, or at each.
abbrev pub wanted_of : Search → Option ℕ → Wanted
wanted_of s viewer = record {
  class = viewer;
  endings = s.has_endings;
  steps = s.has_steps;
  effort = record { budget = s.budget; tries = s.tries; seed = s.seed };
}

-- The files of a search have this lattice and this source text, and this is wanted of them.
pub record AreSought (holds : Holding) (s : Search) (l : Lattice) (source : List ℕ) (wanted : Wanted) : Type 0 where
  pub declared : IsLatticeAt holds s.lattice.now l
  pub read : IsReadAt holds s.source.now source
  pub viewer : Option ℕ
  pub looks : LooksFor l s.class viewer
  pub is : wanted ≡ wanted_of s viewer

-- No leak was found in this many pairs of runs of a text that has a program, at most the tries for each class and each
-- sign; this says nothing about other pairs.
pub record SearchesFiles (holds : Holding) (s : Search) (text : Vec ℕ) : Type 0 where
  pub lattice : Lattice
  pub declared : IsLatticeAt holds s.lattice.now lattice
  pub source : List ℕ
  pub read : IsReadAt holds s.source.now source
  pub program : HasProgram (class_named lattice) source
  pub viewer : Option ℕ
  pub looks : LooksFor lattice s.class viewer
  pub pairs : ℕ
  pub tried : pairs ≤ most_pairs (order lattice) (wanted_of s viewer)
  pub line : text.items ≡ codes "no leak in " ++ decimal pairs ++ codes " pairs of runs\n"

-- The line of JSON for a search of a source text, which found no leak or found one.
pub record SearchesJson (holds : Holding) (s : Search) (good : Bool) (text : Vec ℕ) : Type 0 where
  pub lattice : Lattice
  pub declared : IsLatticeAt holds s.lattice.now lattice
  pub source : List ℕ
  pub read : IsReadAt holds s.source.now source
  pub viewer : Option ℕ
  pub looks : LooksFor lattice s.class viewer
  pub is : TellsSearch lattice source (wanted_of s viewer) good text.items

-- A source text and the lattice that it is compiled with, under the base profile.
abbrev pub compilation_of : Bor (List ℕ) → Bor (List ℕ) → Compilation
compilation_of lattice source = record { lattice = lattice; source = source; is_strict = false }

-- The image whose bytes `build` makes of the files of a compilation.
pub record IsBuiltAt (holds : Holding) (c : Compilation) (im : Image) : Type 0 where
  pub bytes : Vec ℕ
  pub built : OfFiles holds c (ToldImage c.is_strict) bytes
  pub are : AreImage bytes.items im

-- The image of a file, or with a lattice that of a source text.
abbrev pub IsEmittedFrom : Holding → Option (Bor (List ℕ)) → Bor (List ℕ) → Image → Type 0
IsEmittedFrom holds None file = IsImageAt holds file.now
IsEmittedFrom holds (Some lattice) file = IsBuiltAt holds (compilation_of lattice file)

-- The bytes of that image: those of its file, or with a lattice those that `build` makes.
abbrev pub emitted_bytes : (holds : Holding) → (lattice : Option (Bor (List ℕ))) → (file : Bor (List ℕ)) → (im : Image) →
    IsEmittedFrom holds lattice file im → List ℕ
emitted_bytes holds None file im held = held.bytes
emitted_bytes holds (Some lattice) file im held = held.bytes.items

-- The bytes of the lattice file, if there is one.
abbrev pub AreLatticeBytes : Holding → Option (Bor (List ℕ)) → Option (List ℕ) → Type 0
AreLatticeBytes holds None bytes = bytes ≡ None
AreLatticeBytes holds (Some path) bytes = IsSomeAnd bytes (IsReadAt holds path.now)

-- These bytes are those of the requested image.
pub record IsEmittedAs (holds : Holding) (lattice : Option (Bor (List ℕ))) (file : Bor (List ℕ)) (im : Image)
    (bytes : List ℕ) : Type 0 where
  pub held : IsEmittedFrom holds lattice file im
  pub same : bytes ≡ emitted_bytes holds lattice file im held

-- The origin names the version and the build of this program.
pub record IsOurs (origin : Origin) : Type 0 where
  pub version : origin.version.now ≡ program_version
  pub build : origin.build ≡ program_build

-- The header of an image's C with a budget, or that C, with the most instructions of a run, if they are known.
abbrev pub IsHeaderOrC : Bool → Image → Origin → Option ℕ → List ℕ → List ℕ → Type 0
IsHeaderOrC true im origin bound name text = text ≡ header_text origin bound name (globals im.globals.items)
IsHeaderOrC false im origin bound name text = IsEmitted im origin bound name text

-- This is the header of an image's C with a budget, or that C, and its bound, if it has one, is right.
pub record IsWrittenInC (is_header : Bool) (im : Image) (origin : Origin) (name text : List ℕ) : Type 0 where
  pub bound : Option ℕ
  pub halts : IfSome bound (IsBound im)
  pub is : IsHeaderOrC is_header im origin bound name text

-- The header of an image's C without a budget, or that C, with the most instructions of a run.
abbrev pub IsWrittenBounded : Bool → Image → Origin → ℕ → List ℕ → List ℕ → Type 0
IsWrittenBounded true im origin most name text = text ≡ bounded_header_text origin most name (globals im.globals.items)
IsWrittenBounded false im origin most name text = IsEmittedBounded im origin most name text

-- The image has a bound, and this is the header of its C without a budget, or that C.
pub record IsBoundedC (is_header : Bool) (im : Image) (origin : Origin) (name text : List ℕ) : Type 0 where
  pub most : ℕ
  pub halts : IsBound im most
  pub is : IsWrittenBounded is_header im origin most name text

-- An image's C or its header, without a budget or with one.
abbrev pub IsRequestedC : Bool → Bool → Image → Origin → List ℕ → List ℕ → Type 0
IsRequestedC true = IsBoundedC
IsRequestedC false = IsWrittenInC

-- The C of the requested image, or its header. It says that it comes from this program, from the image's bytes and,
-- with a lattice, from the bytes of the lattice file.
pub record EmitsFile (holds : Holding) (asked : Emission) (text : Vec ℕ) : Type 0 where
  pub image : Image
  pub origin : Origin
  pub ours : IsOurs origin
  pub bytes : IsEmittedAs holds asked.lattice asked.file image origin.image.now
  pub lattice : AreLatticeBytes holds asked.lattice (option_map (λ b. b.now) origin.lattice)
  pub is : IsRequestedC asked.is_bounded asked.is_header image origin (function_name asked.name asked.file.now) text.items

-- What is said of the bound of an image, as a line or as a line of JSON: it has one, or none was found.
abbrev pub ToldBound : Bool → Image → Bool → Vec ℕ → Type 0
ToldBound true im bounded text = IsBoundJson im bounded text.items
ToldBound false im bounded text =
    (told : BoundAnswer) × TellsBound im told × (told.is_bounded ≡ bounded) × (told.text ≡ text)

-- The same of an image of this kind.
pub record Bounds (Kind : Image → Type 0) (is_json bounded : Bool) (text : Vec ℕ) : Type 0 where
  pub image : Image
  pub held : Kind image
  pub is : ToldBound is_json image bounded text

-- The same of the requested image.
abbrev pub TellsBounding : Bool → Holding → Bounding → Bool → Vec ℕ → Type 0
TellsBounding is_json holds asked = Bounds (IsEmittedFrom holds asked.lattice asked.file) is_json

-- The request of an interface, its lattice and a source text or an image, as the files hold them.
pub record AreAsked (holds : Holding) (c : Conformance) (asked : InterfaceFile) (l : Lattice) (source : List ℕ)
    : Type 0 where
  pub interface : IsAskedAt holds c.interface.now asked
  pub lattice : IsPolicyAt holds c.interface.now asked.policy l
  pub read : IsReadAt holds c.source.now source

-- The source text conforms to the interface; or it doesn't; or a bound is required, and this line is about the bound of
-- its image, for which there is no number.
abbrev pub IsVerdict : Bool → Option (Vec ℕ) → Lattice → List ℕ → Interface → Type 0
IsVerdict true line l source i = Conforms l source i
IsVerdict false None l source i = ¬ (Conforms l source i)
IsVerdict false (Some line) l source i = IsUnbounded l source i line.items

-- These rows say where a source text differs from an interface, if it does; there are none exactly if nothing differs.
pub record JudgesText (l : Lattice) (source : List ℕ) (i : Interface) (fits : Bool) (rows : List Row) : Type 0 where
  pub answer : Answer
  pub tells : TellsPoints l source i answer
  pub verdict : is_conforming answer ≡ fits
  pub is : IsVerdict fits answer.unbounded l source i
  pub are : AreTextRows l source i answer rows

-- What is said of the bytes of a file: of an image, if they begin as one, and otherwise of a source text.
abbrev pub JudgesBytes : Bool → Lattice → List ℕ → Interface → Bool → List Row → Type 0
JudgesBytes true = JudgesSupplied
JudgesBytes false = JudgesText

-- The files of a conformance with these bytes: the interface, its lattice file if it names one, and the source text or
-- the image.
abbrev pub judged_files : Conformance → InterfaceFile → List ℕ → List ℕ → List ℕ → List Filed
judged_files c asked interface policy source =
    (c.interface.now, interface) ∷ lattice_file c.interface.now asked.policy policy ++ (c.source.now, source) ∷ []

-- The evidence of a source text or an image that conforms to an interface: the version of the program, the profile, the
-- bound if one is required, and the files.
pub record IsConformity (asked : InterfaceFile) (l : Lattice) (source : List ℕ) (files : List Filed) (text : List ℕ)
    : Type 0 where
  pub most : Option ℕ
  pub bound : IsFiledBound asked.interface.bounded (IsJudged (begins_image source) l source) most
  pub is : text ≡ conformity_text program_version (filed_profile asked.interface.judgement) most files

-- The same for the bytes that were read and judged.
abbrev pub IsEvidence : (holds : Holding) → (c : Conformance) → (asked : InterfaceFile) → (l : Lattice) →
    (source : List ℕ) → AreAsked holds c asked l source → List ℕ → Type 0
IsEvidence holds c asked l source files =
    IsConformity asked l source
    (judged_files c asked files.interface.bytes (policy_bytes holds c.interface.now asked.policy l files.lattice) source)

-- The text written for the files of a conformance, whose source text or image conforms to the interface under its
-- lattice or doesn't: its points, the released outputs and the trial beside the reference, if the interface names one,
-- and the evidence after them. The runs of the interface take together no more instructions than the budget has.
pub record ConformsFiles (holding : Holding) (c : Conformance) (conforms : Bool) (text : Vec ℕ) : Type 0 where
  pub asked : InterfaceFile
  pub lattice : Lattice
  pub source : List ℕ
  pub files : AreAsked holding c asked lattice source
  pub within : total_of asked.interface ≤ c.budget
  pub said : Said
  pub judges : JudgesBytes (begins_image source) lattice source asked.interface said.fits said.rows
  pub released : AreReleasedIn (begins_image source) lattice source asked said.found
  pub tried : IsTried asked.reference said.tried
  pub verdict : conforms ≡ is_well said
  pub followed : IsFollowed c.has_evidence conforms (IsEvidence holding c asked lattice source files)
      (written_as c.form c.source.now said) text.items

-- A text of this kind, which says that all is well.
abbrev pub Well : (Vec ℕ → Type 0) → Bool → Vec ℕ → Type 0
Well Kind true text = Kind text
Well Kind false text = ⊥

-- The document that answers a request, and that says of its files that all is well or that something is wrong.
abbrev pub DocumentOf : Holding → Document → Bool → Vec ℕ → Type 0
DocumentOf holds (document.Sarif asked) accepted =
    OfFiles holds asked.compilation
    (ToldSarif (judgement_of asked.is_steady asked.compilation.is_strict) asked.compilation.source.now accepted)
DocumentOf holds (document.Classes asked) good = OfFiles holds asked (ToldClassesJson (profile_of asked.is_strict) good)
DocumentOf holds (document.Flows asked) good = OfFiles holds asked (ToldFlowsJson (profile_of asked.is_strict) good)
DocumentOf holds (document.Audit asked) good = AuditsDocument false holds asked good
DocumentOf holds (document.AuditSarif asked) good = AuditsDocument true holds asked good
DocumentOf holds (document.Bound asked) good = TellsBounding true holds asked good
DocumentOf holds (document.Run e o) good = RunsJson holds e o good
DocumentOf holds (document.Compare comparison) good = TellsComparison true holds comparison good
DocumentOf holds (document.Leak search) good = SearchesJson holds search good
DocumentOf holds (document.List image) good = Well (ListsJson holds image.now) good
DocumentOf holds (document.Policy looking) good = SeesFiles true holds looking good
DocumentOf holds (document.Visible visibility) good = ShowsFiles true holds visibility good
DocumentOf holds (document.Layout source) good = ChecksLayout holds source.now good

-- ---- the answer of each request.

-- `check`: the text is accepted; with `--json` the line says whether it is.
abbrev pub TellsCheck : Bool → Holding → Judging → Bool → Vec ℕ → Type 0
TellsCheck true holds asked accepted =
    OfFiles holds asked.compilation (ToldJson (judgement_of asked.is_steady asked.compilation.is_strict) accepted)
TellsCheck false holds asked accepted =
    Well (OfFiles holds asked.compilation (ToldAccepted asked.is_steady asked.compilation.is_strict)) accepted

-- `mend`: the least raises of the text; with `--json` the line may say that none serves.
abbrev pub TellsMend : Bool → Holding → Mending → Bool → Vec ℕ → Type 0
TellsMend true holds asked served =
    OfFiles holds asked.compilation (ToldMendedJson (profile_of asked.compilation.is_strict) served)
TellsMend false holds asked served =
    Well (OfFiles holds asked.compilation (ToldMended asked.is_applied (profile_of asked.compilation.is_strict))) served

-- The text that answers a request, and whether it says that all is well; a request that writes while it works has none.
abbrev pub Tells : Holding → Request → Bool → Vec ℕ → Type 0
Tells holds (request.Try attempt) = Well (TriesFile holds attempt)
Tells holds (request.Check asked) = TellsCheck asked.is_json holds asked
Tells holds (request.Survey asked) = SurveysFiles holds asked
Tells holds (request.Project asked) = ProjectsFiles holds asked
Tells holds (request.Document asked) = DocumentOf holds asked
Tells holds (request.Conform asked) = ConformsFiles holds asked
Tells holds (request.Classes c) = Well (OfFiles holds c (ToldClasses c.is_strict))
Tells holds (request.Mend asked) = TellsMend asked.is_json holds asked
Tells holds (request.Build c image) = Well (OfFiles holds c (ToldImage c.is_strict))
Tells holds (request.List image) = Well (OfFile holds image.now ToldListing)
Tells holds (request.Audit asked) = Well (AuditsTo holds asked)
Tells holds (request.Source image) = Well (SourceOfFile holds image.now)
Tells holds (request.EmitC asked) = Well (EmitsFile holds asked)
Tells holds (request.Bound asked) = TellsBounding false holds asked
Tells holds (request.View lattice class e o) = Well (ViewsFiles holds lattice.now class.now e o)
Tells holds (request.ViewWithin asked) = Well (ViewsWithin holds asked)
Tells holds (request.Compare comparison) = TellsComparison false holds comparison
Tells holds (request.CompareSteps comparison is_json) = λ same text. ComparesSteps holds comparison same
Tells holds (request.Steps stepping is_json) = λ ended text. OfStepFiles holds stepping (IsStepped stepping ended)
Tells holds (request.Monitor stepping rule is_json) = λ ended text. OfStepFiles holds stepping (IsMonitored stepping (rule_of rule) ended)
Tells holds (request.Leak search) = Well (SearchesFiles holds search)
Tells holds (request.Report page) = Well (OfFiles holds page.compilation (ToldPage page.compilation.is_strict))
Tells holds (request.Draw drawing) = Well (DrawsFiles holds drawing)
Tells holds (request.Policy looking) = SeesFiles false holds looking
Tells holds (request.Visible visibility) = ShowsFiles false holds visibility
Tells holds (request.Format source) = Well (OfFile holds source.now ToldCanonical)
Tells holds (request.Lattice arguments) = Well (ShapedText arguments.items)
Tells holds (request.Explain page) = Well (λ text. text.items ≡ page.now)
Tells holds asked = λ good text. ⊥

-- ---- what each request has done.

-- A good answer has been put into its place.
pub record PutsAnswer (holds : Holding) (asked : Request) (left : Holding) (old new : Option (List ℕ)) : Type 0 where
  pub text : Vec ℕ
  pub is : Tells holds asked true text
  pub put : Puts (place_of asked) text.items holds left old new

-- `run`: the trace, followed by the text of the store, which goes to a file if one is given.
pub record PerformsRun (holds : Holding) (e : Execution) (o : InitialStore) (traced : Bool) (left : Holding)
    (old new : Option (List ℕ)) : Type 0 where
  pub trace : List ℕ
  pub text : List ℕ
  pub ran : RunsFiles holds e o traced trace text
  pub written : Appends old new (trace ++ shown o.out text)
  pub delivered : Delivers o.out text holds left

-- `drive`: a class drives the image by a lattice file or by an interface, its boundary has no fault, its budget is
-- enough or `--unbounded` is given, a cycle has run for each line of the input, beginning with the words of its first
-- store, its text has been written, and the last store goes to a file if one is given.
pub record PerformsDrive (holds : Holding) (d : Driving) (given : Option (List ℕ)) (left : Holding)
    (old new : Option (List ℕ)) : Type 0 where
  pub lattice : Lattice
  pub driver : ℕ
  pub image : Image
  pub boundary : Boundary
  pub steered : IsSteered holds d lattice driver image boundary
  pub held : IsImageAt holds d.execution.image.now image
  pub first : List ℤ
  pub begun : IsBegun holds d image first
  pub words : List ℤ
  pub budget : ℕ
  pub within : IsBudgetOf d.execution.budget image budget
  pub admitted : IsAdmitted d.is_unbounded lattice image budget
  pub sound : boundary_fault (controlled lattice driver image budget boundary) ≡ None
  pub drives : DrivesInput (controlled lattice driver image budget boundary) first words given old new
  pub saved : Delivers d.save (state_text image words) holds left

-- This has been done without filling a file.
abbrev pub Alone : (Option (List ℕ) → Option (List ℕ) → Type 0) → Holding → Holding → Option (List ℕ) →
    Option (List ℕ) → Type 0
Alone Does holds left old new = (left ≡ holds) × Does old new

-- The effect of a request that ends well and is carried out so: its output and the files afterwards, given its files
-- and the input.
abbrev pub PerformsWork : Work → Holding → Option (List ℕ) → Request → Holding → Option (List ℕ) → Option (List ℕ) → Type 0
PerformsWork (Lists c has_walks) holds given asked left =
    Alone (Writes (OfFiles holds c (ToldFlows has_walks c.is_strict))) holds left
PerformsWork (Runs e o has_trace has_count) holds given asked left = PerformsRun holds e o has_trace left
PerformsWork (Drives driving) holds given asked left = PerformsDrive holds driving given left
PerformsWork (Lays layout) holds given asked left =
    PerformsLayout layout.is_checked layout.is_written holds layout.source.now left
PerformsWork Talks holds given asked left = Alone Serves holds left
PerformsWork Replies holds given asked left = PutsAnswer holds asked left

-- The effect of a request that ends well.
abbrev pub Performs : Holding → Option (List ℕ) → Request → Holding → Option (List ℕ) → Option (List ℕ) → Type 0
Performs holds given asked = PerformsWork (work_of asked) holds given asked

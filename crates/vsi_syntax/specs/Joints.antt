-- How a text is laid out between two tokens.
use Rattle.std.specs.Prelude.{ℕ, suc, ◌-◌, Bool, true, false, nat_le, Option, Some, None, if◌then◌else◌, ◌||◌}
use Rattle.vsi_syntax.specs.declared.token.Kind.{Kind}
use Rattle.vsi_syntax.specs.declared.token.Kind.TheVariants as k
use Rattle.vsi_syntax.specs.declared.writing.Joint.{Joint}
use Rattle.vsi_syntax.specs.declared.writing.Place.{Place}
use Rattle.vsi_syntax.specs.declared.writing.Joint.TheVariants as j

-- The line ends after this token.
abbrev pub ends_line : Kind → Bool
ends_line k.Semicolon = true
ends_line k.OpenBrace = true
ends_line _ = false

-- Nothing separates this token from the next one.
abbrev pub is_open : Kind → Bool
is_open k.Open = true
is_open _ = false

-- Nothing separates this token from the one before.
abbrev pub is_close : Kind → Bool
is_close k.Close = true
is_close k.Semicolon = true
is_close _ = false

-- The token closes a block.
abbrev pub closes_block : Kind → Bool
closes_block k.CloseBrace = true
closes_block _ = false

-- The token separates two commands or declarations.
abbrev pub separates : Kind → Bool
separates k.Semicolon = true
separates _ = false

-- After a comment the token is no further in than its command.
abbrev pub is_outer : Kind → Bool
is_outer k.Then = true
is_outer k.Else = true
is_outer k.Do = true
is_outer k.In = true
is_outer k.OpenBrace = true
is_outer k.Semicolon = true
is_outer _ = false

-- The separation of two tokens without comments between them.
abbrev pub joint_between : Kind → Kind → Joint
joint_between before after =
    if ends_line before || closes_block after then j.Line
    else if is_open before || is_close after then j.Nothing else j.Space

-- The separation of a token, if there is one, from the next, if there is one.
abbrev pub joint_of : Option Kind → Option Kind → Joint
joint_of None after = j.Start
joint_of (Some before) None = j.End
joint_of (Some before) (Some after) = joint_between before after

-- A blank line is kept there.
abbrev pub keeps_blank : Option Kind → Option Kind → Bool
keeps_blank None after = true
keeps_blank (Some before) None = true
keeps_blank (Some before) (Some after) = separates before

-- The levels of indentation of a token on a line of its own in the middle of a command.
abbrev pub inner_level : Kind → ℕ → ℕ
inner_level kind depth = if is_outer kind then depth else suc depth

-- The levels of indentation of a comment there: those of the token that follows, except that it is within the block that
-- the token closes.
abbrev pub comment_level : Joint → Option Kind → ℕ → ℕ
comment_level joint None depth = depth
comment_level j.Nothing (Some kind) depth = inner_level kind depth
comment_level j.Space (Some kind) depth = inner_level kind depth
comment_level _ (Some kind) depth = depth

-- The levels of indentation of a token that begins a line.
abbrev pub token_level : Joint → Option Kind → ℕ → ℕ
token_level joint None depth = depth
token_level j.Nothing (Some kind) depth = inner_level kind depth
token_level j.Space (Some kind) depth = inner_level kind depth
token_level _ (Some kind) depth = if closes_block kind then depth - 1 else depth

-- The number of open blocks after a token, at most 200.
abbrev pub depth_after : Kind → ℕ → ℕ
depth_after k.OpenBrace depth = if nat_le 200 depth then depth else suc depth
depth_after k.CloseBrace depth = depth - 1
depth_after _ depth = depth

-- How a text is laid out between two tokens, within this number of blocks.
abbrev pub place_of : Option Kind → Option Kind → ℕ → Place
place_of before after depth = record {
  joint = joint_of before after;
  keeps_blank = keeps_blank before after;
  comment_level = comment_level (joint_of before after) after depth;
  token_level = token_level (joint_of before after) after depth;
}

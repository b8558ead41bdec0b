-- The objects that `refspec` writes for `--json`. This project's own rule. Members are in the order of their keys.
use Rattle.std.specs.Prelude.{ℕ, ◌==◌, cond, List, [], ◌∷◌, ◌++◌, Option, Some, None, map, codes}
use Rattle.serde_json.specs.Data.{Data, null, number, unsigned, string, array, object, Members, no_members, member}
use Rattle.serde_json.specs.View.{items_of}
use Rattle.serde_json.specs.Written.{compact_text}

-- the line of an object
abbrev pub line_of : Data → List ℕ
line_of d = compact_text d ++ 10 ∷ []

-- the line of an object with a remote as its first member; nothing for a text that isn't the line of one
abbrev pub line_with_remote : (remote line : List ℕ) → List ℕ
line_with_remote remote [] = []
line_with_remote remote (b ∷ members) =
    cond (b == 123) (codes "{\"remote\":" ++ (compact_text (string remote) ++ 44 ∷ members)) []

-- a text, or null for None
abbrev pub text_or_null : Option (List ℕ) → Data
text_or_null None = null
text_or_null (Some t) = string t

-- a number, or null for None
abbrev pub number_or_null : Option ℕ → Data
number_or_null None = null
number_or_null (Some n) = number (unsigned n)

-- the members, after a text under the key k, if there is one
abbrev pub text_if : (k : List ℕ) → Option (List ℕ) → Members → Members
text_if k None ms = ms
text_if k (Some t) ms = member k (string t) ms

-- the members, after a number under the key k, if there is one
abbrev pub number_if : (k : List ℕ) → Option ℕ → Members → Members
number_if k None ms = ms
number_if k (Some n) ms = member k (number (unsigned n)) ms

-- a refused text; at counts bytes from 1
abbrev pub refused_object : (location operation text reason message : List ℕ) → (side part : Option (List ℕ))
    → (at : Option ℕ) → (advice : List ℕ) → Data
refused_object location operation text reason message side part at advice = object (
    member (codes "advice") (string advice) (
    member (codes "at") (number_or_null at) (
    member (codes "kind") (string (codes "refused")) (
    member (codes "message") (string message) (
    member (codes "operation") (string operation) (
    member (codes "part") (text_or_null part) (
    member (codes "place") (string location) (
    member (codes "reason") (string reason) (
    member (codes "side") (text_or_null side) (
    member (codes "text") (string text) no_members))))))))))

-- a spec; its meaning and the location of an earlier duplicate are members only if they are given
abbrev pub spec_object : (kind location operation text canonical : List ℕ) → (meaning same_as : Option (List ℕ)) → Data
spec_object kind location operation text canonical meaning same_as = object (
    member (codes "canonical") (string canonical) (
    member (codes "kind") (string kind) (
    text_if (codes "meaning") meaning (
    member (codes "operation") (string operation) (
    member (codes "place") (string location) (
    text_if (codes "same_as") same_as (
    member (codes "text") (string text) no_members)))))))

-- a mapping, with the canonical text of its spec, and where that comes from, if it is one of a plan
abbrev pub mapping_object : (source : List ℕ) → (destination : Option (List ℕ)) → (spec : List ℕ)
    → (origin : Option (List ℕ)) → Data
mapping_object source destination spec origin = object (
    member (codes "destination") (text_or_null destination) (
    member (codes "kind") (string (codes "mapping")) (
    text_if (codes "origin") origin (
    member (codes "source") (string source) (
    member (codes "spec") (string spec) no_members)))))

-- the same for a mapping of a remote with a name
abbrev pub remote_mapping_object : (remote source : List ℕ) → (destination : Option (List ℕ)) → (spec : List ℕ) → Data
remote_mapping_object remote source destination spec = object (
    member (codes "destination") (text_or_null destination) (
    member (codes "kind") (string (codes "mapping")) (
    member (codes "remote") (string remote) (
    member (codes "source") (string source) (
    member (codes "spec") (string spec) no_members)))))

-- an update that isn't written, since a spec of the call writes to its destination, and a sentence on it
abbrev pub overruled_object : (source : List ℕ) → (destination : Option (List ℕ)) → (spec origin message : List ℕ)
    → Data
overruled_object source destination spec origin message = object (
    member (codes "destination") (text_or_null destination) (
    member (codes "kind") (string (codes "overruled")) (
    member (codes "message") (string message) (
    member (codes "origin") (string origin) (
    member (codes "source") (string source) (
    member (codes "spec") (string spec) no_members))))))

-- an update whose destination is a directory of another one's, or is in that; and that one
abbrev pub directory_conflict_object : (source : List ℕ) → (destination : Option (List ℕ))
    → (spec origin other message : List ℕ) → Data
directory_conflict_object source destination spec origin other message = object (
    member (codes "destination") (text_or_null destination) (
    member (codes "kind") (string (codes "directory_conflict")) (
    member (codes "message") (string message) (
    member (codes "origin") (string origin) (
    member (codes "other") (string other) (
    member (codes "source") (string source) (
    member (codes "spec") (string spec) no_members)))))))

-- an update that is left out, the side whose ref name is invalid, and why
abbrev pub left_out_object : (source : List ℕ) → (destination : Option (List ℕ)) → (spec origin side message : List ℕ)
    → Data
left_out_object source destination spec origin side message = object (
    member (codes "destination") (text_or_null destination) (
    member (codes "kind") (string (codes "left_out")) (
    member (codes "message") (string message) (
    member (codes "origin") (string origin) (
    member (codes "side") (string side) (
    member (codes "source") (string source) (
    member (codes "spec") (string spec) no_members)))))))

-- a source of a conflict, the canonical text of its spec, and where that comes from
pub record Claimed : Type 0 where
  pub source : List ℕ
  pub spec : List ℕ
  pub origin : List ℕ

abbrev pub claim_object : Claimed → Data
claim_object c = object (
    member (codes "origin") (string c.origin) (
    member (codes "source") (string c.source) (
    member (codes "spec") (string c.spec) no_members)))

-- a spec whose source the remote lacks, where it comes from, a sentence on it, names of the remote that end the same,
-- and
-- how many more of these there are, if not all are given
abbrev pub missing_object : (spec origin message : List ℕ) → (names : List (List ℕ)) → (more : Option ℕ) → Data
missing_object spec origin message names more = object (
    member (codes "kind") (string (codes "missing")) (
    member (codes "message") (string message) (
    number_if (codes "more") more (
    member (codes "names") (array (items_of (map string names))) (
    member (codes "origin") (string origin) (
    member (codes "spec") (string spec) no_members))))))

-- a local ref that a pruning fetch deletes
abbrev pub stale_object : (name : List ℕ) → Data
stale_object name = object (
    member (codes "kind") (string (codes "stale")) (
    member (codes "name") (string name) no_members))

-- a local ref that a pruning fetch keeps, the negative spec that keeps it, and a sentence on it
abbrev pub kept_object : (name spec message : List ℕ) → Data
kept_object name spec message = object (
    member (codes "kind") (string (codes "kept")) (
    member (codes "message") (string message) (
    member (codes "name") (string name) (
    member (codes "spec") (string spec) no_members))))

-- a destination with several sources
abbrev pub conflict_object : (destination : List ℕ) → (sources : List Claimed) → Data
conflict_object destination sources = object (
    member (codes "destination") (string destination) (
    member (codes "kind") (string (codes "conflict")) (
    member (codes "sources") (array (items_of (map claim_object sources))) no_members)))

-- a record of the input that is not a ref, why, and what to do
abbrev pub malformed_object : (location text message advice : List ℕ) → Data
malformed_object location text message advice = object (
    member (codes "advice") (string advice) (
    member (codes "kind") (string (codes "malformed")) (
    member (codes "message") (string message) (
    member (codes "place") (string location) (
    member (codes "text") (string text) no_members)))))

-- a ref that no spec writes
abbrev pub untracked_object : (name message : List ℕ) → Data
untracked_object name message = object (
    member (codes "kind") (string (codes "untracked")) (
    member (codes "message") (string message) (
    member (codes "name") (string name) no_members)))

-- a ref that several remotes write
abbrev pub ambiguous_object : (name message : List ℕ) → Data
ambiguous_object name message = object (
    member (codes "kind") (string (codes "ambiguous")) (
    member (codes "message") (string message) (
    member (codes "name") (string name) no_members)))

-- a ref prefix, as an argument of protocol v2 and as a pattern of `git ls-remote`
abbrev pub prefix_object : (prefix pattern : List ℕ) → Data
prefix_object prefix pattern = object (
    member (codes "kind") (string (codes "prefix")) (
    member (codes "pattern") (string pattern) (
    member (codes "prefix") (string prefix) no_members)))

-- a spec and a message, for the kinds `all` and `to_object`
abbrev pub noted_object : (kind spec message : List ℕ) → Data
noted_object kind spec message = object (
    member (codes "kind") (string kind) (
    member (codes "message") (string message) (
    member (codes "spec") (string spec) no_members)))

-- no request to the server is needed
abbrev pub nothing_object : (message : List ℕ) → Data
nothing_object message = object (
    member (codes "kind") (string (codes "nothing")) (
    member (codes "message") (string message) no_members))

-- all refs must be requested for all specs together
abbrev pub all_object : (message : List ℕ) → Data
all_object message = object (
    member (codes "kind") (string (codes "all")) (
    member (codes "message") (string message) no_members))

-- a spec that a warning is about: its location and its text
pub record Warned : Type 0 where
  pub location : List ℕ
  pub text : List ℕ

abbrev pub warned_object : Warned → Data
warned_object w = object (
    member (codes "place") (string w.location) (
    member (codes "text") (string w.text) no_members))

-- a warning, by its name: its location, the specs that it is about, a sentence on them and what to do
abbrev pub warning_object : (name location : List ℕ) → (specs : List Warned) → (message advice : List ℕ) → Data
warning_object name location specs message advice = object (
    member (codes "advice") (string advice) (
    member (codes "kind") (string (codes "warning")) (
    member (codes "message") (string message) (
    member (codes "name") (string name) (
    member (codes "place") (string location) (
    member (codes "specs") (array (items_of (map warned_object specs))) no_members))))))

-- the upstream of a branch, the ref that it merges, and the spec that stores that there, or null if that is a local
-- branch; the branch is a member only if it is given
abbrev pub upstream_object : (branch : Option (List ℕ)) → (merge name : List ℕ) → (spec : Option (List ℕ)) → Data
upstream_object branch merge name spec = object (
    text_if (codes "branch") branch (
    member (codes "kind") (string (codes "upstream")) (
    member (codes "merge") (string merge) (
    member (codes "name") (string name) (
    member (codes "spec") (text_or_null spec) no_members)))))

-- a merged ref without an upstream, the spec that is the reason if one is, a sentence on it and what to do
abbrev pub no_upstream_object : (branch : Option (List ℕ)) → (merge : List ℕ) → (spec : Option (List ℕ))
    → (message advice : List ℕ) → Data
no_upstream_object branch merge spec message advice = object (
    member (codes "advice") (string advice) (
    text_if (codes "branch") branch (
    member (codes "kind") (string (codes "no_upstream")) (
    member (codes "merge") (string merge) (
    member (codes "message") (string message) (
    member (codes "spec") (text_or_null spec) no_members))))))

-- a spec, and what a prefetch applies in place of it
abbrev pub prefetch_object : (spec prefetch : List ℕ) → Data
prefetch_object spec prefetch = object (
    member (codes "kind") (string (codes "prefetch")) (
    member (codes "prefetch") (string prefetch) (
    member (codes "spec") (string spec) no_members)))

-- a spec that a prefetch ignores, and a sentence on it
abbrev pub ignored_object : (spec message : List ℕ) → Data
ignored_object spec message = object (
    member (codes "kind") (string (codes "ignored")) (
    member (codes "message") (string message) (
    member (codes "spec") (string spec) no_members)))

-- a value, and what a new name of its remote makes of it
abbrev pub renamed_object : (text renamed : List ℕ) → Data
renamed_object text renamed = object (
    member (codes "kind") (string (codes "renamed")) (
    member (codes "renamed") (string renamed) (
    member (codes "text") (string text) no_members)))

-- a value that a new name of its remote leaves as it is, and a sentence on it
abbrev pub unchanged_object : (text message : List ℕ) → Data
unchanged_object text message = object (
    member (codes "kind") (string (codes "unchanged")) (
    member (codes "message") (string message) (
    member (codes "text") (string text) no_members)))

-- what a spec does with a ref: the destination or null, in a word what becomes of the ref, and a sentence on it
abbrev pub fate_object : (spec name : List ℕ) → (destination : Option (List ℕ)) → (fate message : List ℕ) → Data
fate_object spec name destination fate message = object (
    member (codes "destination") (text_or_null destination) (
    member (codes "fate") (string fate) (
    member (codes "kind") (string (codes "fate")) (
    member (codes "message") (string message) (
    member (codes "name") (string name) (
    member (codes "spec") (string spec) no_members))))))

-- a ref that isn't fetched, a sentence on it and what to do
abbrev pub not_fetched_object : (name message advice : List ℕ) → Data
not_fetched_object name message advice = object (
    member (codes "advice") (string advice) (
    member (codes "kind") (string (codes "not_fetched")) (
    member (codes "message") (string message) (
    member (codes "name") (string name) no_members))))

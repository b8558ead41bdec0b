-- The line of an example of each object, written by hand.
use Rattle.std.proofs.Common.{◌≡◌, ◌++◌, [], ◌∷◌, None, Some, codes, refl}
use Rattle.std.specs.Fmt.{digits}
use Rattle.serde_json.proofs.OnLiterals.{serde_json_on_literals}
use Rattle.refspec_json.specs.Objects.{line_of, refused_object, spec_object, mapping_object, remote_mapping_object}
use Rattle.refspec_json.specs.Objects.{overruled_object, left_out_object, conflict_object, missing_object, stale_object}
use Rattle.refspec_json.specs.Objects.{kept_object, malformed_object, untracked_object, ambiguous_object}
use Rattle.refspec_json.specs.Objects.{all_object, line_with_remote, prefix_object, noted_object, nothing_object}
use Rattle.refspec_json.specs.Objects.{upstream_object, no_upstream_object, prefetch_object, ignored_object}
use Rattle.refspec_json.specs.Objects.{renamed_object, unchanged_object, fate_object, not_fetched_object}

-- a source with a fault, and an empty text
pub refused :
    (line_of (refused_object (codes "-:1") (codes "fetch") (codes "a..b") (codes "r") (codes "m")
    (Some (codes "source")) (Some (codes "..")) (Some 2) (codes "d"))
    ≡ codes
    "{\"advice\":\"d\",\"at\":2,\"kind\":\"refused\",\"message\":\"m\",\"operation\":\"fetch\",\"part\":\"..\",\"place\":\"-:1\",\"reason\":\"r\",\"side\":\"source\",\"text\":\"a..b\"}" ++ 10 ∷ [])
    × (line_of (refused_object (codes "-:1") (codes "push") [] (codes "r") (codes "m") None None None [])
    ≡ codes
    "{\"advice\":\"\",\"at\":null,\"kind\":\"refused\",\"message\":\"m\",\"operation\":\"push\",\"part\":null,\"place\":\"-:1\",\"reason\":\"r\",\"side\":null,\"text\":\"\"}" ++ 10 ∷ [])
unfolding digits serde_json_on_literals
refused = (refl, refl)

-- a spec alone, with its meaning, and with the location of an earlier duplicate
pub spec : (line_of (spec_object (codes "canonical") (codes "-:1") (codes "fetch") (codes "@") (codes "HEAD") None None)
    ≡ codes "{\"canonical\":\"HEAD\",\"kind\":\"canonical\",\"operation\":\"fetch\",\"place\":\"-:1\",\"text\":\"@\"}"
    ++ 10 ∷ [])
    × (line_of (spec_object (codes "meaning") (codes "-:1") (codes "fetch") (codes "a") (codes "a")
    (Some (codes "m")) None)
    ≡ codes
    "{\"canonical\":\"a\",\"kind\":\"meaning\",\"meaning\":\"m\",\"operation\":\"fetch\",\"place\":\"-:1\",\"text\":\"a\"}" ++ 10 ∷ [])
    × (line_of (spec_object (codes "good") (codes "-:2") (codes "fetch") (codes "a") (codes "a") None
    (Some (codes "-:1")))
    ≡ codes
    "{\"canonical\":\"a\",\"kind\":\"good\",\"operation\":\"fetch\",\"place\":\"-:2\",\"same_as\":\"-:1\",\"text\":\"a\"}" ++ 10 ∷ [])
unfolding serde_json_on_literals
spec = (refl, refl, refl)

-- a quote and a backslash are escaped
pub mapping : (line_of (mapping_object (codes "a") None (codes "b") None)
    ≡ codes "{\"destination\":null,\"kind\":\"mapping\",\"source\":\"a\",\"spec\":\"b\"}" ++ 10 ∷ [])
    × (line_of (mapping_object (codes "\"\\") (Some (codes "c")) (codes "b") (Some (codes "given")))
    ≡ codes "{\"destination\":\"c\",\"kind\":\"mapping\",\"origin\":\"given\",\"source\":\"\\\"\\\\\",\"spec\":\"b\"}"
    ++ 10 ∷ [])
unfolding serde_json_on_literals
mapping = (refl, refl)

pub remote_mapping : line_of (remote_mapping_object (codes "o") (codes "a") (Some (codes "c")) (codes "b"))
    ≡ codes "{\"destination\":\"c\",\"kind\":\"mapping\",\"remote\":\"o\",\"source\":\"a\",\"spec\":\"b\"}" ++ 10 ∷ []
unfolding serde_json_on_literals
remote_mapping = refl

pub ambiguous : line_of (ambiguous_object (codes "n") (codes "m")) ≡ codes
    "{\"kind\":\"ambiguous\",\"message\":\"m\",\"name\":\"n\"}" ++ 10 ∷ []
unfolding serde_json_on_literals
ambiguous = refl

-- the remote is the first member of an object, and another text has no line
pub with_remote : (line_with_remote (codes "o") (codes "{\"kind\":\"k\"}") ≡ codes "{\"remote\":\"o\",\"kind\":\"k\"}")
    × (line_with_remote (codes "o") (codes "[]") ≡ []) × (line_with_remote (codes "o") [] ≡ [])
unfolding serde_json_on_literals
with_remote = (refl, refl, refl)

pub overruled : line_of (overruled_object (codes "a") (Some (codes "c")) (codes "b") (codes "configured") (codes "m"))
    ≡ codes
    "{\"destination\":\"c\",\"kind\":\"overruled\",\"message\":\"m\",\"origin\":\"configured\",\"source\":\"a\",\"spec\":\"b\"}" ++ 10 ∷ []
unfolding serde_json_on_literals
overruled = refl

pub left_out : line_of (left_out_object (codes "a") (Some (codes "c")) (codes "b") (codes "given") (codes "source")
    (codes "m"))
    ≡ codes
    "{\"destination\":\"c\",\"kind\":\"left_out\",\"message\":\"m\",\"origin\":\"given\",\"side\":\"source\",\"source\":\"a\",\"spec\":\"b\"}" ++ 10 ∷ []
unfolding serde_json_on_literals
left_out = refl

-- two sources, in order, and none
pub conflict :
    (line_of (conflict_object (codes "d") (record { source = codes "b"; spec = codes "b:d"; origin = codes "given" }
    ∷ record { source = codes "a"; spec = codes "a:d"; origin = codes "configured" } ∷ []))
    ≡ codes
    "{\"destination\":\"d\",\"kind\":\"conflict\",\"sources\":[{\"origin\":\"given\",\"source\":\"b\",\"spec\":\"b:d\"},{\"origin\":\"configured\",\"source\":\"a\",\"spec\":\"a:d\"}]}" ++ 10 ∷ [])
    × (line_of (conflict_object (codes "d") []) ≡ codes "{\"destination\":\"d\",\"kind\":\"conflict\",\"sources\":[]}"
    ++ 10 ∷ [])
unfolding serde_json_on_literals
conflict = (refl, refl)

-- two names, in order, and one of three
pub missing : (line_of (missing_object (codes "s") (codes "given") (codes "m") (codes "b" ∷ codes "a" ∷ []) None)
    ≡ codes "{\"kind\":\"missing\",\"message\":\"m\",\"names\":[\"b\",\"a\"],\"origin\":\"given\",\"spec\":\"s\"}"
    ++ 10 ∷ [])
    × (line_of (missing_object (codes "s") (codes "given") (codes "m") (codes "b" ∷ []) (Some 2))
    ≡ codes "{\"kind\":\"missing\",\"message\":\"m\",\"more\":2,\"names\":[\"b\"],\"origin\":\"given\",\"spec\":\"s\"}"
    ++ 10 ∷ [])
unfolding digits serde_json_on_literals
missing = (refl, refl)

pub stale : (line_of (stale_object (codes "n")) ≡ codes "{\"kind\":\"stale\",\"name\":\"n\"}" ++ 10 ∷ [])
    × (line_of (kept_object (codes "n") (codes "s") (codes "m")) ≡ codes
    "{\"kind\":\"kept\",\"message\":\"m\",\"name\":\"n\",\"spec\":\"s\"}" ++ 10 ∷ [])
unfolding serde_json_on_literals
stale = (refl, refl)

pub malformed : line_of (malformed_object (codes "-:1") (codes "t") (codes "m") (codes "d")) ≡ codes
    "{\"advice\":\"d\",\"kind\":\"malformed\",\"message\":\"m\",\"place\":\"-:1\",\"text\":\"t\"}" ++ 10 ∷ []
unfolding serde_json_on_literals
malformed = refl

pub untracked : line_of (untracked_object (codes "n") (codes "m")) ≡ codes
    "{\"kind\":\"untracked\",\"message\":\"m\",\"name\":\"n\"}" ++ 10 ∷ []
unfolding serde_json_on_literals
untracked = refl

pub prefix : line_of (prefix_object (codes "refs/heads/") (codes "refs/heads/*")) ≡ codes
    "{\"kind\":\"prefix\",\"pattern\":\"refs/heads/*\",\"prefix\":\"refs/heads/\"}" ++ 10 ∷ []
unfolding serde_json_on_literals
prefix = refl

pub noted : (line_of (noted_object (codes "all") (codes "s") (codes "m")) ≡ codes
    "{\"kind\":\"all\",\"message\":\"m\",\"spec\":\"s\"}" ++ 10 ∷ [])
    × (line_of (noted_object (codes "to_object") (codes "s") (codes "m")) ≡ codes
    "{\"kind\":\"to_object\",\"message\":\"m\",\"spec\":\"s\"}" ++ 10 ∷ [])
unfolding serde_json_on_literals
noted = (refl, refl)

pub nothing : line_of (nothing_object (codes "m")) ≡ codes "{\"kind\":\"nothing\",\"message\":\"m\"}" ++ 10 ∷ []
unfolding serde_json_on_literals
nothing = refl

-- an upstream with and without a branch, and that of a local branch
pub upstream : (line_of (upstream_object None (codes "m") (codes "u") (Some (codes "s")))
    ≡ codes "{\"kind\":\"upstream\",\"merge\":\"m\",\"name\":\"u\",\"spec\":\"s\"}" ++ 10 ∷ [])
    × (line_of (upstream_object (Some (codes "b")) (codes "m") (codes "m") None)
    ≡ codes "{\"branch\":\"b\",\"kind\":\"upstream\",\"merge\":\"m\",\"name\":\"m\",\"spec\":null}"
    ++ 10 ∷ [])
unfolding serde_json_on_literals
upstream = (refl, refl)

pub no_upstream : (line_of (no_upstream_object None (codes "m") None (codes "t") (codes "d"))
    ≡ codes
    "{\"advice\":\"d\",\"kind\":\"no_upstream\",\"merge\":\"m\",\"message\":\"t\",\"spec\":null}"
    ++ 10 ∷ [])
    × (line_of (no_upstream_object (Some (codes "b")) (codes "m") (Some (codes "s")) (codes "t") (codes "d"))
    ≡ codes
    "{\"advice\":\"d\",\"branch\":\"b\",\"kind\":\"no_upstream\",\"merge\":\"m\",\"message\":\"t\",\"spec\":\"s\"}"
    ++ 10 ∷ [])
unfolding serde_json_on_literals
no_upstream = (refl, refl)

pub prefetch : (line_of (prefetch_object (codes "s") (codes "p"))
    ≡ codes "{\"kind\":\"prefetch\",\"prefetch\":\"p\",\"spec\":\"s\"}" ++ 10 ∷ [])
    × (line_of (ignored_object (codes "s") (codes "m"))
    ≡ codes "{\"kind\":\"ignored\",\"message\":\"m\",\"spec\":\"s\"}" ++ 10 ∷ [])
unfolding serde_json_on_literals
prefetch = (refl, refl)

pub renamed : (line_of (renamed_object (codes "t") (codes "r"))
    ≡ codes "{\"kind\":\"renamed\",\"renamed\":\"r\",\"text\":\"t\"}" ++ 10 ∷ [])
    × (line_of (unchanged_object (codes "t") (codes "m"))
    ≡ codes "{\"kind\":\"unchanged\",\"message\":\"m\",\"text\":\"t\"}" ++ 10 ∷ [])
unfolding serde_json_on_literals
renamed = (refl, refl)

pub fate : (line_of (fate_object (codes "s") (codes "n") (Some (codes "d")) (codes "f") (codes "m"))
    ≡ codes
    "{\"destination\":\"d\",\"fate\":\"f\",\"kind\":\"fate\",\"message\":\"m\",\"name\":\"n\",\"spec\":\"s\"}"
    ++ 10 ∷ [])
    × (line_of (not_fetched_object (codes "n") (codes "m") (codes "d"))
    ≡ codes "{\"advice\":\"d\",\"kind\":\"not_fetched\",\"message\":\"m\",\"name\":\"n\"}" ++ 10 ∷ [])
unfolding serde_json_on_literals
fate = (refl, refl)

pub all : line_of (all_object (codes "m")) ≡ codes "{\"kind\":\"all\",\"message\":\"m\"}" ++ 10 ∷ []
unfolding serde_json_on_literals
all = refl

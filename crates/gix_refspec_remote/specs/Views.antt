-- Rust values as plain data, for contracts.
use Rattle.gix_refspec_match.specs.Views.Mapping.{name_bytes}
use Rattle.gix_refspec_remote.specs.declared.upstreams.Upstream.{Upstream as DeclaredUpstream}
use Rattle.gix_refspec_remote.specs.declared.upstreams.Upstream.TheVariants as declared
use Rattle.gix_refspec_remote.specs.Upstream.{Upstream, tracked, excluded, not_stored, not_fetched}

-- an upstream, from the declared type
abbrev pub shown : DeclaredUpstream → Upstream
shown (declared.Tracked name k) = tracked (name_bytes name) k
shown (declared.Excluded k by) = excluded k by
shown (declared.NotStored k) = not_stored k
shown declared.NotFetched = not_fetched

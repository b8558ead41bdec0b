-- Calls, and arguments that are refused.
use Rattle.std.proofs.Common.{◌≡◌, inl, inr, ℕ, Bor, List, [], ◌∷◌, Option, None, Some, ap, arith, codes, false}
use Rattle.std.proofs.Common.{length, refl, true}
use Rattle.std.proofs.lemmas.List.Elements.{Contains-get_or}
use Rattle.gix_refspec_text.proofs.readers.Texts.{Lacks-tested}
use Rattle.refspec_request.specs.declared.arguments.Subcommand.{Subcommand}
use Rattle.refspec_request.specs.declared.arguments.Subcommand.TheVariants as command
use Rattle.refspec_request.specs.declared.arguments.Switch.TheVariants as switch
use Rattle.refspec_request.specs.declared.arguments.Valued.TheVariants as option
use Rattle.refspec_request.specs.declared.refusal.Refusal.TheVariants as refusal
use Rattle.refspec_request.specs.Arguments.{AreCall, AreSwitches, Call, RefusesCommand, RefusesNext}
use Rattle.refspec_request.specs.Arguments.{RefusesSwitch, Takes, behind, flags, is_long, is_option, lacking, text}
use Rattle.refspec_request.specs.Arguments.{valued, whole}

abbrev lent : List ℕ → Bor (List ℕ)
lent bytes = record { ref_ptr = (0, 0); now = bytes }

-- options in any order, and `--`: `check -vz a -- -v`
abbrev checked : Call
checked = record {
  command = Some command.Check;
  arguments = codes "a" ∷ (codes "-v" ∷ []);
  given = switch.Verbose ∷ (switch.Zeros ∷ []);
  remote = None;
  refmap = [];
  lacks = None;
  dashes = Some 1;
}

pub any_order : AreCall (codes "check" ∷ (codes "-vz" ∷ (codes "a" ∷ (codes "--" ∷ (codes "-v" ∷ []))))) checked
any_order = record {
  words = text (codes "check") ∷ (flags (switch.Verbose ∷ (switch.Zeros ∷ [])) ∷ (text (codes "a") ∷ []));
  end = behind (codes "-v" ∷ []);
  front = codes "check" ∷ (codes "-vz" ∷ (codes "a" ∷ []));
  back = codes "--" ∷ (codes "-v" ∷ []);
  spelled = (
    codes "check" ∷ [],
    codes "-vz" ∷ (codes "a" ∷ []),
    (refl, refl),
    (
      codes "-vz" ∷ [],
      codes "a" ∷ [],
      (codes "-vz", inr (refl, refl, refl), refl),
      (codes "a" ∷ [], [], (refl, refl), refl, refl),
      refl,
    ),
    refl,
  );
  ended = refl;
  parts = refl;
  read = record {
    texts = (refl, (λ e. cc), refl);
    given = refl;
    remote = refl;
    refmap = refl;
    lacks = refl;
    dashes = refl;
  };
}

-- a value of its own, and one behind `=`, of which the last counts: `--remote a plan --remote=b`
abbrev named : Call
named = record {
  command = Some command.Plan;
  arguments = [];
  given = [];
  remote = Some (codes "b");
  refmap = [];
  lacks = None;
  dashes = None;
}

pub last_remote : AreCall (codes "--remote" ∷ (codes "a" ∷ (codes "plan" ∷ (codes "--remote=b" ∷ [])))) named
last_remote = record {
  words = valued option.Remote (codes "a") ∷ (text (codes "plan") ∷ (valued option.Remote (codes "b") ∷ []));
  end = whole;
  front = codes "--remote" ∷ (codes "a" ∷ (codes "plan" ∷ (codes "--remote=b" ∷ [])));
  back = [];
  spelled = (
    codes "--remote" ∷ (codes "a" ∷ []),
    codes "plan" ∷ (codes "--remote=b" ∷ []),
    (codes "--remote", refl, inl refl),
    (
      codes "plan" ∷ [],
      codes "--remote=b" ∷ [],
      (refl, refl),
      (codes "--remote=b" ∷ [], [], (codes "--remote", refl, inr refl), refl, refl),
      refl,
    ),
    refl,
  );
  ended = refl;
  parts = refl;
  read = record {
    texts = (refl, (λ e. cc), refl);
    given = refl;
    remote = (codes "a" ∷ [], refl);
    refmap = refl;
    lacks = refl;
    dashes = refl;
  };
}

-- a call whose last option lacks its value, though it begins as an option does: `stale --refmap`
abbrev open_ : Call
open_ = record {
  command = Some command.Stale;
  arguments = [];
  given = [];
  remote = None;
  refmap = [];
  lacks = Some option.Refmap;
  dashes = None;
}

pub lacking_value : AreCall (codes "stale" ∷ (codes "--refmap" ∷ [])) open_
    × RefusesCommand open_ refusal.NoRefmap
lacking_value = (
  record {
    words = text (codes "stale") ∷ [];
    end = lacking option.Refmap;
    front = codes "stale" ∷ [];
    back = codes "--refmap" ∷ [];
    spelled = (codes "stale" ∷ [], [], (refl, refl), refl, refl);
    ended = (codes "--refmap", refl, refl);
    parts = refl;
    read = record {
      texts = (refl, (λ e. cc), refl);
      given = refl;
      remote = refl;
      refmap = refl;
      lacks = refl;
      dashes = refl;
    };
  },
  inr (inr (inl (refl, (λ e. cc), refl))),
)

-- `-` is a text, `-z` and `--z` are of options, and of these the second is long
pub dashes_alone : (is_option (codes "-") ≡ false) × (is_option (codes "-z") ≡ true) × (is_long (codes "-z") ≡ false)
    × (is_long (codes "--z") ≡ true) × (is_option (codes "z-") ≡ false)
dashes_alone = (refl, refl, refl, refl, refl)

-- letters that each name an option, and a long name with one dash, which has a letter of none
pub letters : AreSwitches (codes "-hz") (switch.Usage ∷ (switch.Zeros ∷ []))
letters = inr (refl, refl, refl)

-- behind a command: an unknown letter, an unknown name, a value for an option that takes none
abbrev plan : Call
plan = record named { remote = None }

pub refused : RefusesNext plan (codes "-zq") (refusal.NoSuchOption (lent (codes "-zq")))
    × RefusesNext plan (codes "--specs=x") (refusal.NoSuchOption (lent (codes "--specs=x")))
    × RefusesNext plan (codes "--json=1") (refusal.NeedlessValue (lent (codes "--json=1")))
refused = (
  (refl, inr (inr (refl, refl, refl, (refl, 113, Contains-get_or (codes "zq") 1 0 (omega arith), refl)))),
  (
    refl,
    inr (inl (
      refl,
      (λ e. omega (arith, ap (length {A = ℕ}) e)),
      refl,
      (refl, codes "--specs", (Lacks-tested 61 (codes "--specs") refl, inr (codes "x", refl)), refl, refl),
    )),
  ),
  (
    refl,
    inr (inl (
      refl,
      (λ e. omega (arith, ap (length {A = ℕ}) e)),
      refl,
      (refl, codes "--json", codes "1", switch.Json, refl, refl),
    )),
  ),
)

-- a first text that names no command; behind `--` one that begins with `-`
abbrev none : Call
none = record named { command = None; remote = None }

pub no_command : RefusesNext none (codes "nosuch") (refusal.NoSuchCommand (lent (codes "nosuch")))
    × RefusesNext (record none { dashes = Some 0 }) (codes "-z") (refusal.NoSuchCommand (lent (codes "-z")))
    × RefusesCommand none refusal.NoCommand
no_command = (
  (refl, inl (inr refl, (refl, refl, refl))),
  (refl, inl (inl (λ e. cc), (refl, refl, refl))),
  inl (refl, refl),
)

-- the command of an owner
abbrev of : Option (List ℕ × Subcommand) → Subcommand
of None = command.Plan
of (Some owner) = owner.1

-- an option of checks alone, with a plan; a plan takes one of plans, and one of all commands
pub elsewhere : RefusesSwitch command.Plan switch.Verbose
    (refusal.OptionElsewhere (lent (codes "-v")) (lent (codes "check")))
    × Takes command.Plan switch.Long × Takes command.Plan switch.Json
elsewhere = (
  (command.Check, refl, (λ e. cc), refl),
  (λ told other is. ap of is),
  (λ told other is. cc),
)

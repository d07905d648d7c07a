-- Which schedules a text can hold.
use Rattle.std.specs.Prelude.{◌≡◌, ℕ, ◌≤◌, Bool, true, ◌&&◌, List, length, nat_le}
use Rattle.std.specs.List.{list_all}
use Rattle.pct_model.specs.declared.schedule.Alt.{Alt}
use Rattle.pct_model.specs.declared.schedule.Alt.TheVariants as alt
use Rattle.pct_model.specs.declared.schedule.Config.{Config}
use Rattle.pct_model.specs.declared.schedule.Entry.{Entry}
use Rattle.pct_model.specs.declared.limits.TheConstants.{MAX_WORKER}
use Rattle.pct_model.specs.Formats.{has_choice}
use Rattle.pct_model.specs.Run.{is_config}

-- a number of 32 bits
abbrev pub fits : ℕ → Bool
fits n = nat_le n 4294967295

-- an alternative whose number, if it has one, has 32 bits
abbrev pub is_choice : Alt → Bool
is_choice alt.Go = true
is_choice (alt.Act n) = fits n
is_choice (alt.New n) = fits n
is_choice (alt.Pick n) = fits n
is_choice (alt.Dtor n) = fits n
is_choice alt.Expire = true

-- an entry of numbers of 32 bits, with a worker of at most MAX_WORKER
abbrev pub is_entry : Entry → Bool
is_entry e = nat_le e.worker MAX_WORKER && fits e.pid && fits e.tid && is_choice e.alt

-- a configuration within the limits, and at most as many entries as the budget, each within its limits and with a choice that the format has
pub record IsSchedule (config : Config) (entries : List Entry) : Type 0 where
  pub config_fits : is_config config ≡ true
  pub few : length entries ≤ config.budget
  pub each : list_all is_entry entries ≡ true
  pub known : list_all (λ e. has_choice config.format e.alt) entries ≡ true

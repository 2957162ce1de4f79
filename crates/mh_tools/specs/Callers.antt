-- Who calls, by the setting.
use Rattle.command_plans.specs.declared.caller.Caller.{Caller}
use Rattle.mh_tools.specs.Setting.{SettingParts}

abbrev pub caller_of : SettingParts → Caller
caller_of setting = record { user = setting.user; clock = record { moment = setting.moment; offset = setting.offset } }
